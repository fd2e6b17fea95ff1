-- How instructions are spelled (Core 1.0, 5.4).
use Rattle.std.specs.Prelude.{◌≡◌, ℕ, ◌+◌, ◌⊎◌, List, []}
use Rattle.wasm_ast.specs.declared.types.ValType.{ValType}
use Rattle.wasm_ast.specs.declared.types.ValType.TheVariants as val_type
use Rattle.wasm_ast.specs.declared.types.Value.TheVariants as value
use Rattle.wasm_ast.specs.declared.numeric.Unary.{Unary}
use Rattle.wasm_ast.specs.declared.numeric.Unary.TheVariants.{Clz, Ctz, Popcnt}
use Rattle.wasm_ast.specs.declared.numeric.Binary.{Binary}
use Rattle.wasm_ast.specs.declared.numeric.Binary.TheVariants.{Add, Sub, Mul, And, Or, Xor, Shl, ShrS, ShrU, Rotl, Rotr}
use Rattle.wasm_ast.specs.declared.numeric.Division.{Division}
use Rattle.wasm_ast.specs.declared.numeric.Division.TheVariants.{DivS, DivU, RemS, RemU}
use Rattle.wasm_ast.specs.declared.numeric.Comparison.{Comparison}
use Rattle.wasm_ast.specs.declared.numeric.Comparison.TheVariants.{Eq, Ne, LtS, LtU, GtS, GtU, LeS, LeU, GeS, GeU}
use Rattle.wasm_ast.specs.declared.numeric.Conversion.{Conversion}
use Rattle.wasm_ast.specs.declared.numeric.Conversion.TheVariants.{Wrap, ExtendS, ExtendU}
use Rattle.wasm_ast.specs.declared.numeric.Numeric.{Numeric}
use Rattle.wasm_ast.specs.declared.numeric.Numeric.TheVariants as numeric
use Rattle.wasm_ast.specs.declared.plain.Variable.{Variable}
use Rattle.wasm_ast.specs.declared.plain.Variable.TheVariants as variable
use Rattle.wasm_ast.specs.declared.plain.MemoryArgument.{MemoryArgument}
use Rattle.wasm_ast.specs.declared.plain.Load.{Load}
use Rattle.wasm_ast.specs.declared.plain.Load.TheVariants as load
use Rattle.wasm_ast.specs.declared.plain.Store.{Store}
use Rattle.wasm_ast.specs.declared.plain.Store.TheVariants as store
use Rattle.wasm_ast.specs.declared.plain.Memory.{Memory}
use Rattle.wasm_ast.specs.declared.plain.Memory.TheVariants as memory
use Rattle.wasm_ast.specs.declared.plain.Plain.{Plain}
use Rattle.wasm_ast.specs.declared.plain.Plain.TheVariants as plain
use Rattle.wasm_ast.specs.declared.plain.Branch.{Branch}
use Rattle.wasm_ast.specs.declared.plain.Branch.TheVariants as branch
use Rattle.wasm_ast.specs.Code.{Code}
use Rattle.wasm_ast.specs.Code as code
use Rattle.wasm_items.specs.Bytes.{Then, Byte, U32, Uninterpreted, Vector}
use Rattle.wasm_items.specs.Types.{SpellsBlockType}

-- ---- numeric instructions (5.4.5)

-- the position of an operation among those of its group
abbrev pub comparison_place : Comparison → ℕ
comparison_place Eq = 0
comparison_place Ne = 1
comparison_place LtS = 2
comparison_place LtU = 3
comparison_place GtS = 4
comparison_place GtU = 5
comparison_place LeS = 6
comparison_place LeU = 7
comparison_place GeS = 8
comparison_place GeU = 9

abbrev pub unary_place : Unary → ℕ
unary_place Clz = 0
unary_place Ctz = 1
unary_place Popcnt = 2

abbrev pub binary_place : Binary → ℕ
binary_place Add = 3
binary_place Sub = 4
binary_place Mul = 5
binary_place And = 10
binary_place Or = 11
binary_place Xor = 12
binary_place Shl = 13
binary_place ShrS = 14
binary_place ShrU = 15
binary_place Rotl = 16
binary_place Rotr = 17

abbrev pub division_place : Division → ℕ
division_place DivS = 6
division_place DivU = 7
division_place RemS = 8
division_place RemU = 9

-- the first opcode of a type's tests and comparisons, and that of its arithmetic
abbrev pub test_opcode : ValType → ℕ
test_opcode val_type.I32 = 0x45
test_opcode val_type.I64 = 0x50

abbrev pub arithmetic_opcode : ValType → ℕ
arithmetic_opcode val_type.I32 = 0x67
arithmetic_opcode val_type.I64 = 0x79

abbrev pub conversion_opcode : Conversion → ℕ
conversion_opcode Wrap = 0xA7
conversion_opcode ExtendS = 0xAC
conversion_opcode ExtendU = 0xAD

abbrev pub numeric_opcode : Numeric → ℕ
numeric_opcode (numeric.Eqz t) = test_opcode t
numeric_opcode (numeric.Comparison t op) = test_opcode t + 1 + comparison_place op
numeric_opcode (numeric.Unary t op) = arithmetic_opcode t + unary_place op
numeric_opcode (numeric.Binary t op) = arithmetic_opcode t + binary_place op
numeric_opcode (numeric.Division t op) = arithmetic_opcode t + division_place op
numeric_opcode (numeric.Conversion op) = conversion_opcode op

abbrev pub SpellsNumeric : Numeric → List ℕ → Type 0
SpellsNumeric op bytes = Byte (numeric_opcode op) bytes

-- ---- variables and memory (5.4.3 and 5.4.4)

abbrev pub SpellsVariable : Variable → List ℕ → Type 0
SpellsVariable (variable.LocalGet x) bytes = Then (Byte 0x20) (U32 x) bytes
SpellsVariable (variable.LocalSet x) bytes = Then (Byte 0x21) (U32 x) bytes
SpellsVariable (variable.LocalTee x) bytes = Then (Byte 0x22) (U32 x) bytes
SpellsVariable (variable.GlobalGet x) bytes = Then (Byte 0x23) (U32 x) bytes
SpellsVariable (variable.GlobalSet x) bytes = Then (Byte 0x24) (U32 x) bytes

abbrev pub load_opcode : Load → ℕ
load_opcode load.I32 = 0x28
load_opcode load.I64 = 0x29
load_opcode load.I32From8S = 0x2C
load_opcode load.I32From8U = 0x2D
load_opcode load.I32From16S = 0x2E
load_opcode load.I32From16U = 0x2F
load_opcode load.I64From8S = 0x30
load_opcode load.I64From8U = 0x31
load_opcode load.I64From16S = 0x32
load_opcode load.I64From16U = 0x33
load_opcode load.I64From32S = 0x34
load_opcode load.I64From32U = 0x35

abbrev pub store_opcode : Store → ℕ
store_opcode store.I32 = 0x36
store_opcode store.I64 = 0x37
store_opcode store.I32To8 = 0x3A
store_opcode store.I32To16 = 0x3B
store_opcode store.I64To8 = 0x3C
store_opcode store.I64To16 = 0x3D
store_opcode store.I64To32 = 0x3E

abbrev pub SpellsMemoryArgument : MemoryArgument → List ℕ → Type 0
SpellsMemoryArgument a bytes = Then (U32 a.align) (U32 a.offset) bytes

-- the 0 byte after `memory.size` and `memory.grow` names the memory
abbrev pub SpellsMemory : Memory → List ℕ → Type 0
SpellsMemory (memory.Load op a) bytes = Then (Byte (load_opcode op)) (SpellsMemoryArgument a) bytes
SpellsMemory (memory.Store op a) bytes = Then (Byte (store_opcode op)) (SpellsMemoryArgument a) bytes
SpellsMemory memory.Size bytes = Then (Byte 0x3F) (Byte 0x00) bytes
SpellsMemory memory.Grow bytes = Then (Byte 0x40) (Byte 0x00) bytes

-- ---- instructions that contain no others (5.4.1 and 5.4.2)

abbrev pub SpellsPlain : Plain → List ℕ → Type 0
SpellsPlain plain.Nop bytes = Byte 0x01 bytes
SpellsPlain plain.Drop bytes = Byte 0x1A bytes
SpellsPlain plain.Select bytes = Byte 0x1B bytes
SpellsPlain (plain.Const (value.I32 n)) bytes = Then (Byte 0x41) (Uninterpreted 32 n) bytes
SpellsPlain (plain.Const (value.I64 n)) bytes = Then (Byte 0x42) (Uninterpreted 64 n) bytes
SpellsPlain (plain.Numeric op) bytes = SpellsNumeric op bytes
SpellsPlain (plain.Variable op) bytes = SpellsVariable op bytes
SpellsPlain (plain.Memory op) bytes = SpellsMemory op bytes

abbrev pub SpellsBranch : Branch → List ℕ → Type 0
SpellsBranch (branch.Br l) bytes = Then (Byte 0x0C) (U32 l) bytes
SpellsBranch (branch.BrIf l) bytes = Then (Byte 0x0D) (U32 l) bytes
SpellsBranch (branch.BrTable ls l) bytes = Then (Byte 0x0E) (Then (Vector U32 ls) (U32 l)) bytes
SpellsBranch branch.Return bytes = Byte 0x0F bytes

-- the 0 byte at the end names the table
abbrev pub SpellsCallIndirect : ℕ → List ℕ → Type 0
SpellsCallIndirect t bytes = Then (Byte 0x11) (Then (U32 t) (Byte 0x00)) bytes

-- ---- instruction sequences

-- this, and then `end`
abbrev pub Ended : (List ℕ → Type 0) → List ℕ → Type 0
Ended inside bytes = Then inside (Byte 0x0B) bytes

-- the arm for 0 of an `if`, and then `end`; an empty arm may be omitted with its `else` (5.4.1)
abbrev pub Arm : (List ℕ → Type 0) → Code → List ℕ → Type 0
Arm spelled other bytes = Then (Byte 0x05) (Ended spelled) bytes ⊎ ((other ≡ code.end) × Byte 0x0B bytes)

-- an instruction sequence, without its `end`
abbrev pub SpellsCode : Code → List ℕ → Type 0
SpellsCode code.end bytes = bytes ≡ []
SpellsCode (code.plain p rest) bytes = Then (SpellsPlain p) (SpellsCode rest) bytes
SpellsCode (code.branch b rest) bytes = Then (SpellsBranch b) (SpellsCode rest) bytes
SpellsCode (code.call f rest) bytes = Then (Then (Byte 0x10) (U32 f)) (SpellsCode rest) bytes
SpellsCode (code.call_indirect t rest) bytes = Then (SpellsCallIndirect t) (SpellsCode rest) bytes
SpellsCode (code.unreachable rest) bytes = Then (Byte 0x00) (SpellsCode rest) bytes
SpellsCode (code.block t body rest) bytes =
    Then (Then (Byte 0x02) (Then (SpellsBlockType t) (Ended (SpellsCode body)))) (SpellsCode rest) bytes
SpellsCode (code.loop t body rest) bytes =
    Then (Then (Byte 0x03) (Then (SpellsBlockType t) (Ended (SpellsCode body)))) (SpellsCode rest) bytes
SpellsCode (code.choice t body other rest) bytes =
    Then (Then (Byte 0x04) (Then (SpellsBlockType t) (Then (SpellsCode body) (Arm (SpellsCode other) other)))) (SpellsCode rest) bytes

-- an expression: a sequence and its `end` (5.4.6)
abbrev pub SpellsExpression : Code → List ℕ → Type 0
SpellsExpression c bytes = Ended (SpellsCode c) bytes
