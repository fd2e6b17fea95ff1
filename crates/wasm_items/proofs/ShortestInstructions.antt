-- That no spelling is shorter than the one that is written: types and instructions.
use Rattle.std.proofs.Common.{◌≡◌, ℕ, ◌+◌, ◌≤◌, inl, inr, List, [], ◌∷◌, ◌++◌, length, Option, Some, None, ap, arith, length-append}
use Rattle.std.specs.Bool.{⊤}
use Rattle.leb.specs.Spelling.{u32_spelling}
use Rattle.wasm_ast.specs.declared.types.ValType.{ValType}
use Rattle.wasm_ast.specs.declared.types.Value.TheVariants as value
use Rattle.wasm_ast.specs.declared.types.GlobalType.{GlobalType}
use Rattle.wasm_ast.specs.declared.plain.Variable.TheVariants as variable
use Rattle.wasm_ast.specs.declared.plain.Memory.TheVariants as memory
use Rattle.wasm_ast.specs.declared.plain.MemoryArgument.{MemoryArgument}
use Rattle.wasm_ast.specs.declared.plain.Plain.TheVariants as plain
use Rattle.wasm_ast.specs.declared.plain.Branch.TheVariants as branch
use Rattle.wasm_ast.specs.Code.{Code}
use Rattle.wasm_ast.specs.Code as code
use Rattle.wasm_items.specs.Bytes.{Then, Byte, U32}
use Rattle.wasm_items.specs.Types.{SpellsValType, SpellsBlockType, SpellsFuncType, SpellsRange, SpellsLimits, SpellsTableType, SpellsGlobalType}
use Rattle.wasm_items.specs.Instructions.{SpellsVariable, SpellsMemory, SpellsPlain, SpellsBranch, Ended, Arm, SpellsCode, SpellsExpression}
use Rattle.wasm_items.specs.Canonical.{vector, val_type_bytes, func_type_bytes, limits_bytes, maximum_bytes, table_bytes, global_type_bytes, variable_bytes, memory_bytes, memory_argument_bytes, plain_bytes, branch_bytes, else_bytes, code_bytes, expression_bytes}
use Rattle.wasm_ast.specs.Representable.{IsU32, IsOptionalU32, AreLimitsHeld, IsVariableHeld, IsMemoryHeld, IsPlainHeld, IsBranchHeld, IsCodeHeld}
use Rattle.wasm_items.proofs.ShortestParts.{IsShortest, u32_is_shortest, i32_shortest, i64_shortest, Then_length, vector_is_shortest}

-- a byte and what is behind it
pub behind_byte : (b : ℕ) (Q : List ℕ → Type 0) (bytes : List ℕ) (h : Then (Byte b) Q bytes) → length bytes ≡ length h.back + 1
behind_byte b Q bytes h = omega (arith, Then_length bytes h, ap length h.is_first)

-- ---- types

val_type_is_shortest : IsShortest (λ t. ⊤) SpellsValType val_type_bytes
val_type_is_shortest t bytes h = (tt, omega (arith, ap length h))

pub func_type_is_shortest : IsShortest (λ t. ⊤) SpellsFuncType func_type_bytes
unfolding func_type_bytes
func_type_is_shortest t bytes h =
    let both = h.is_second in
    let parameters = (vector_is_shortest (λ t. ⊤) SpellsValType val_type_bytes val_type_is_shortest t.parameters both.front both.is_first).1 in
    let results = (vector_is_shortest (λ t. ⊤) SpellsValType val_type_bytes val_type_is_shortest t.results both.back both.is_second).1 in
    (tt, omega (arith, parameters, results, behind_byte 0x60 _ bytes h, Then_length h.back both, length-append (vector val_type_bytes t.parameters) (vector val_type_bytes t.results)))

block_type_shortest : (t : Option ValType) (bytes : List ℕ) → SpellsBlockType t bytes → length bytes ≡ 1
block_type_shortest None bytes h = ap length h
block_type_shortest (Some t) bytes h = ap length h

range_shortest : (minimum : ℕ) (maximum : Option ℕ) (bytes : List ℕ) → SpellsRange minimum maximum bytes
    → IsU32 minimum × IsOptionalU32 maximum × (length (maximum_bytes minimum maximum) ≤ length bytes)
range_shortest minimum None bytes h =
    let m = u32_is_shortest minimum h.back h.is_second in
    (m.0, tt, omega (arith, m.1, behind_byte 0x00 _ bytes h))
range_shortest minimum (Some maximum) bytes h =
    let both = h.is_second in
    let m = u32_is_shortest minimum both.front both.is_first in
    let n = u32_is_shortest maximum both.back both.is_second in
    (m.0, n.0, omega (arith, m.1, n.1, behind_byte 0x01 _ bytes h, Then_length h.back both, length-append (u32_spelling minimum) (u32_spelling maximum)))

pub limits_are_shortest : IsShortest AreLimitsHeld SpellsLimits limits_bytes
limits_are_shortest l bytes h =
    let r = range_shortest l.minimum l.maximum bytes h in
    ((r.0, r.1), r.2)

pub table_is_shortest : IsShortest AreLimitsHeld SpellsTableType table_bytes
table_is_shortest l bytes h =
    let r = limits_are_shortest l h.back h.is_second in
    (r.0, omega (arith, r.1, behind_byte 0x70 _ bytes h))

pub global_type_shortest : (t : GlobalType) (bytes : List ℕ) → SpellsGlobalType t bytes → length (global_type_bytes t) ≤ length bytes
global_type_shortest t bytes h = omega (arith, Then_length bytes h, ap length h.is_first, ap length h.is_second)

-- ---- instructions that hold no others

pub numbered_shortest : (opcode n : ℕ) (bytes : List ℕ) → Then (Byte opcode) (U32 n) bytes → IsU32 n × (length (opcode ∷ u32_spelling n) ≤ length bytes)
numbered_shortest opcode n bytes h =
    let r = u32_is_shortest n h.back h.is_second in
    (r.0, omega (arith, r.1, behind_byte opcode _ bytes h))

variable_is_shortest : IsShortest IsVariableHeld SpellsVariable variable_bytes
variable_is_shortest (variable.LocalGet x) bytes h = numbered_shortest 0x20 x bytes h
variable_is_shortest (variable.LocalSet x) bytes h = numbered_shortest 0x21 x bytes h
variable_is_shortest (variable.LocalTee x) bytes h = numbered_shortest 0x22 x bytes h
variable_is_shortest (variable.GlobalGet x) bytes h = numbered_shortest 0x23 x bytes h
variable_is_shortest (variable.GlobalSet x) bytes h = numbered_shortest 0x24 x bytes h

access_shortest : (opcode : ℕ) (a : MemoryArgument) (bytes : List ℕ) → Then (Byte opcode) (Then (U32 a.align) (U32 a.offset)) bytes
    → (IsU32 a.align × IsU32 a.offset) × (length (opcode ∷ memory_argument_bytes a) ≤ length bytes)
access_shortest opcode a bytes h =
    let both = h.is_second in
    let m = u32_is_shortest a.align both.front both.is_first in
    let n = u32_is_shortest a.offset both.back both.is_second in
    ((m.0, n.0), omega (arith, m.1, n.1, behind_byte opcode _ bytes h, Then_length h.back both, length-append (u32_spelling a.align) (u32_spelling a.offset)))

memory_is_shortest : IsShortest IsMemoryHeld SpellsMemory memory_bytes
memory_is_shortest (memory.Load op a) bytes h = access_shortest _ a bytes h
memory_is_shortest (memory.Store op a) bytes h = access_shortest _ a bytes h
memory_is_shortest memory.Size bytes h = (tt, omega (arith, behind_byte 0x3F _ bytes h, ap length h.is_second))
memory_is_shortest memory.Grow bytes h = (tt, omega (arith, behind_byte 0x40 _ bytes h, ap length h.is_second))

plain_is_shortest : IsShortest IsPlainHeld SpellsPlain plain_bytes
plain_is_shortest plain.Nop bytes h = (tt, omega (arith, ap length h))
plain_is_shortest plain.Drop bytes h = (tt, omega (arith, ap length h))
plain_is_shortest plain.Select bytes h = (tt, omega (arith, ap length h))
plain_is_shortest (plain.Const (value.I32 n)) bytes h =
    let r = i32_shortest n h.back h.is_second in
    (r.0, omega (arith, r.1, behind_byte 0x41 _ bytes h))
plain_is_shortest (plain.Const (value.I64 n)) bytes h =
    let r = i64_shortest n h.back h.is_second in
    (r.0, omega (arith, r.1, behind_byte 0x42 _ bytes h))
plain_is_shortest (plain.Numeric op) bytes h = (tt, omega (arith, ap length h))
plain_is_shortest (plain.Variable op) bytes h = variable_is_shortest op bytes h
plain_is_shortest (plain.Memory op) bytes h = memory_is_shortest op bytes h

branch_is_shortest : IsShortest IsBranchHeld SpellsBranch branch_bytes
branch_is_shortest (branch.Br l) bytes h = numbered_shortest 0x0C l bytes h
branch_is_shortest (branch.BrIf l) bytes h = numbered_shortest 0x0D l bytes h
branch_is_shortest (branch.BrTable ls l) bytes h =
    let both = h.is_second in
    let m = vector_is_shortest IsU32 U32 u32_spelling u32_is_shortest ls both.front both.is_first in
    let n = u32_is_shortest l both.back both.is_second in
    ((m.0, n.0), omega (arith, m.1, n.1, behind_byte 0x0E _ bytes h, Then_length h.back both, length-append (vector u32_spelling ls) (u32_spelling l)))
branch_is_shortest branch.Return bytes h = (tt, omega (arith, ap length h))

-- ---- instructions in sequence

ended_length : (P : List ℕ → Type 0) (bytes : List ℕ) (h : Ended P bytes) → length bytes ≡ length h.front + 1
ended_length P bytes h = omega (arith, Then_length bytes h, ap length h.is_second)

-- the opcode and the type of a block, what is in it, and the rest
block_length : (opcode : ℕ) (t : Option ValType) (body rest : Code) (bytes : List ℕ)
    → (h : Then (Then (Byte opcode) (Then (SpellsBlockType t) (Ended (SpellsCode body)))) (SpellsCode rest) bytes)
    → length bytes ≡ 3 + length h.is_first.is_second.is_second.front + length h.back
block_length opcode t body rest bytes h =
    let block = h.is_first in
    let inside = block.is_second in
    omega (arith, Then_length bytes h, behind_byte opcode _ h.front block, Then_length block.back inside, block_type_shortest t inside.front inside.is_first, ended_length _ inside.back inside.is_second)

length_of_block : (a b : ℕ) (inside after : List ℕ) → length (a ∷ b ∷ (inside ++ 0x0B ∷ after)) ≡ 3 + length inside + length after
length_of_block a b inside after = omega (arith, length-append inside (0x0B ∷ after))

length_of_choice : (a b : ℕ) (inside arm after : List ℕ) → length (a ∷ b ∷ (inside ++ (arm ++ 0x0B ∷ after))) ≡ 3 + length inside + length arm + length after
length_of_choice a b inside arm after = omega (arith, length-append inside (arm ++ 0x0B ∷ after), length-append arm (0x0B ∷ after))

-- an `else` takes a byte, where there is one
else_length : (c : Code) (bytes : List ℕ) → length (else_bytes c bytes) ≤ 1 + length bytes
else_length code.end bytes = omega arith
else_length (code.plain p rest) bytes = omega arith
else_length (code.branch b rest) bytes = omega arith
else_length (code.call f rest) bytes = omega arith
else_length (code.call_indirect t rest) bytes = omega arith
else_length (code.unreachable rest) bytes = omega arith
else_length (code.block t body rest) bytes = omega arith
else_length (code.loop t body rest) bytes = omega arith
else_length (code.choice t body other rest) bytes = omega arith

no_arm : (c : Code) (bytes : List ℕ) → c ≡ code.end → IsCodeHeld c × (length (else_bytes c bytes) ≤ 0)
no_arm c bytes e = rw e (tt, omega arith)

-- the arm for 0, its `else` and its end
arm_shortest : (other : Code) (bytes : List ℕ) → Arm (SpellsCode other) other bytes
    → ((inside : List ℕ) → SpellsCode other inside → IsCodeHeld other × (length (code_bytes other) ≤ length inside))
    → IsCodeHeld other × (length (else_bytes other (code_bytes other)) + 1 ≤ length bytes)
arm_shortest other bytes (inl h) recur =
    let inside = h.is_second in
    let r = recur inside.front inside.is_first in
    (r.0, omega (arith, r.1, behind_byte 0x05 _ bytes h, ended_length _ h.back inside, else_length other (code_bytes other)))
arm_shortest other bytes (inr h) recur =
    let n = no_arm other (code_bytes other) h.0 in
    (n.0, omega (arith, n.1, ap length h.1))

pub code_is_shortest : IsShortest IsCodeHeld SpellsCode code_bytes
code_is_shortest code.end bytes h = (tt, omega arith)
code_is_shortest (code.plain p rest) bytes h =
    let one = plain_is_shortest p h.front h.is_first in
    let others = code_is_shortest rest h.back h.is_second in
    ((one.0, others.0), omega (arith, one.1, others.1, Then_length bytes h, length-append (plain_bytes p) (code_bytes rest)))
code_is_shortest (code.branch b rest) bytes h =
    let one = branch_is_shortest b h.front h.is_first in
    let others = code_is_shortest rest h.back h.is_second in
    ((one.0, others.0), omega (arith, one.1, others.1, Then_length bytes h, length-append (branch_bytes b) (code_bytes rest)))
code_is_shortest (code.call f rest) bytes h =
    let one = numbered_shortest 0x10 f h.front h.is_first in
    let others = code_is_shortest rest h.back h.is_second in
    ((one.0, others.0), omega (arith, one.1, others.1, Then_length bytes h, length-append (u32_spelling f) (code_bytes rest)))
code_is_shortest (code.call_indirect t rest) bytes h =
    let one = h.is_first in
    let number = one.is_second in
    let m = u32_is_shortest t number.front number.is_first in
    let others = code_is_shortest rest h.back h.is_second in
    ((m.0, others.0), omega (arith, m.1, others.1, Then_length bytes h, behind_byte 0x11 _ h.front one, Then_length one.back number, ap length number.is_second, length-append (u32_spelling t) (0x00 ∷ code_bytes rest)))
code_is_shortest (code.unreachable rest) bytes h =
    let others = code_is_shortest rest h.back h.is_second in
    (others.0, omega (arith, others.1, behind_byte 0x00 _ bytes h))
code_is_shortest (code.block t body rest) bytes h =
    let closed = h.is_first.is_second.is_second in
    let inside = code_is_shortest body closed.front closed.is_first in
    let others = code_is_shortest rest h.back h.is_second in
    ((inside.0, others.0), omega (arith, inside.1, others.1, block_length 0x02 t body rest bytes h, length_of_block 0x02 0x40 (code_bytes body) (code_bytes rest)))
code_is_shortest (code.loop t body rest) bytes h =
    let closed = h.is_first.is_second.is_second in
    let inside = code_is_shortest body closed.front closed.is_first in
    let others = code_is_shortest rest h.back h.is_second in
    ((inside.0, others.0), omega (arith, inside.1, others.1, block_length 0x03 t body rest bytes h, length_of_block 0x03 0x40 (code_bytes body) (code_bytes rest)))
code_is_shortest (code.choice t body other rest) bytes h =
    let choice = h.is_first in
    let typed = choice.is_second in
    let arms = typed.is_second in
    let inside = code_is_shortest body arms.front arms.is_first in
    let arm = arm_shortest other arms.back arms.is_second (code_is_shortest other) in
    let others = code_is_shortest rest h.back h.is_second in (
      (inside.0, arm.0, others.0),
      omega (
        arith,
        inside.1,
        arm.1,
        others.1,
        Then_length bytes h,
        behind_byte 0x04 _ h.front choice,
        Then_length choice.back typed,
        block_type_shortest t typed.front typed.is_first,
        Then_length typed.back arms,
        length_of_choice 0x04 0x40 (code_bytes body) (else_bytes other (code_bytes other)) (code_bytes rest),
      ),
    )

pub expression_is_shortest : IsShortest IsCodeHeld SpellsExpression expression_bytes
unfolding expression_bytes
expression_is_shortest c bytes h =
    let inside = code_is_shortest c h.front h.is_first in
    (inside.0, omega (arith, inside.1, ended_length _ bytes h, length-append (code_bytes c) (0x0B ∷ [])))
