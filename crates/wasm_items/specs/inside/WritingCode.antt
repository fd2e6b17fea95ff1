-- The bytes that the writers of instructions append, where the canonical spelling has no name for them.
use Rattle.std.specs.Prelude.{ℕ, List, [], ◌∷◌, ◌++◌, Option}
use Rattle.leb.specs.Spelling.{u32_spelling}
use Rattle.wasm_ast.specs.declared.types.ValType.{ValType}
use Rattle.wasm_ast.specs.declared.plain.MemoryArgument.{MemoryArgument}
use Rattle.wasm_ast.specs.Code.{Code}
use Rattle.wasm_items.specs.Canonical.{block_type_byte, memory_argument_bytes, else_bytes, code_bytes}

-- an opcode and a block type
abbrev pub opening_bytes : ℕ → Option ValType → List ℕ
opening_bytes opcode t = opcode ∷ block_type_byte t ∷ []

-- a block or a loop
abbrev pub block_bytes : ℕ → Option ValType → Code → List ℕ
block_bytes opcode t body = opcode ∷ block_type_byte t ∷ (code_bytes body ++ 0x0B ∷ [])

-- the arm for 0 after its `else`, or nothing where it is empty
abbrev pub arm_bytes : Code → List ℕ
arm_bytes other = else_bytes other (code_bytes other)

-- an `if`
abbrev pub choice_bytes : Option ValType → (body other : Code) → List ℕ
choice_bytes t body other = 0x04 ∷ block_type_byte t ∷ (code_bytes body ++ (arm_bytes other ++ 0x0B ∷ []))

abbrev pub call_indirect_bytes : ℕ → List ℕ
call_indirect_bytes t = 0x11 ∷ (u32_spelling t ++ 0x00 ∷ [])

-- a load or a store
abbrev pub access_bytes : ℕ → MemoryArgument → List ℕ
access_bytes opcode argument = opcode ∷ memory_argument_bytes argument
