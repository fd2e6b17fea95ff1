-- The canonical spelling of each item: the one that the encoder writes (Core 1.0, section 5), the shortest of all. So it has no
-- `else` for an empty arm.
use Rattle.std.specs.Prelude.{ℕ, List, [], ◌∷◌, ◌++◌, length, Option, Some, None, flat_map}
use Rattle.leb.specs.Spelling.{u32_spelling, s32_spelling, s64_spelling}
use Rattle.wasm_ast.specs.declared.types.ValType.{ValType}
use Rattle.wasm_ast.specs.declared.types.Value.{Value}
use Rattle.wasm_ast.specs.declared.types.Value.TheVariants as value
use Rattle.wasm_ast.specs.declared.types.FuncType.{FuncType}
use Rattle.wasm_ast.specs.declared.types.Limits.{Limits}
use Rattle.wasm_ast.specs.declared.types.GlobalType.{GlobalType}
use Rattle.wasm_ast.specs.declared.plain.Variable.{Variable}
use Rattle.wasm_ast.specs.declared.plain.Variable.TheVariants as variable
use Rattle.wasm_ast.specs.declared.plain.Memory.{Memory}
use Rattle.wasm_ast.specs.declared.plain.Memory.TheVariants as memory
use Rattle.wasm_ast.specs.declared.plain.MemoryArgument.{MemoryArgument}
use Rattle.wasm_ast.specs.declared.plain.Plain.{Plain}
use Rattle.wasm_ast.specs.declared.plain.Plain.TheVariants as plain
use Rattle.wasm_ast.specs.declared.plain.Branch.{Branch}
use Rattle.wasm_ast.specs.declared.plain.Branch.TheVariants as branch
use Rattle.wasm_ast.specs.declared.module.ImportDescription.{ImportDescription}
use Rattle.wasm_ast.specs.declared.module.ImportDescription.TheVariants as import
use Rattle.wasm_ast.specs.declared.module.Import.{Import}
use Rattle.wasm_ast.specs.declared.module.Function.{Function}
use Rattle.wasm_ast.specs.declared.module.Global.{Global}
use Rattle.wasm_ast.specs.declared.module.ExportDescription.{ExportDescription}
use Rattle.wasm_ast.specs.declared.module.ExportDescription.TheVariants as export
use Rattle.wasm_ast.specs.declared.module.Export.{Export}
use Rattle.wasm_ast.specs.declared.module.Element.{Element}
use Rattle.wasm_ast.specs.declared.module.Data.{Data}
use Rattle.wasm_ast.specs.declared.body.Instr.{Instr}
use Rattle.wasm_ast.specs.Code.{Code}
use Rattle.wasm_ast.specs.Code as code
use Rattle.wasm_ast.specs.View.{then_code}
use Rattle.wasm_ast.specs.Numeric.{signed}
use Rattle.wasm_items.specs.Types.{val_type_byte, mutability_byte}
use Rattle.wasm_items.specs.Instructions.{numeric_opcode, load_opcode, store_opcode}

-- ---- numbers and vectors (5.1 and 5.2)

-- bytes after their length: a name, the bytes of a data segment, the content of a section or of a body
unfoldable pub sized : List ℕ → List ℕ
sized bytes = u32_spelling (length bytes) ++ bytes

-- the number of the items, then the items (5.1.3)
unfoldable pub vector : {A : Type 0} → (A → List ℕ) → List A → List ℕ
vector item xs = u32_spelling (length xs) ++ flat_map item xs

-- ---- types (5.3)

abbrev pub val_type_bytes : ValType → List ℕ
val_type_bytes t = val_type_byte t ∷ []

unfoldable pub func_type_bytes : FuncType → List ℕ
func_type_bytes t = 0x60 ∷ (vector val_type_bytes t.parameters ++ vector val_type_bytes t.results)

abbrev pub block_type_byte : Option ValType → ℕ
block_type_byte None = 0x40
block_type_byte (Some t) = val_type_byte t

abbrev pub maximum_bytes : ℕ → Option ℕ → List ℕ
maximum_bytes minimum None = 0x00 ∷ u32_spelling minimum
maximum_bytes minimum (Some maximum) = 0x01 ∷ (u32_spelling minimum ++ u32_spelling maximum)

abbrev pub limits_bytes : Limits → List ℕ
limits_bytes l = maximum_bytes l.minimum l.maximum

-- a table of functions
abbrev pub table_bytes : Limits → List ℕ
table_bytes l = 0x70 ∷ limits_bytes l

abbrev pub global_type_bytes : GlobalType → List ℕ
global_type_bytes t = val_type_byte t.value ∷ mutability_byte t.mutability ∷ []

-- ---- instructions (5.4)

abbrev pub variable_bytes : Variable → List ℕ
variable_bytes (variable.LocalGet x) = 0x20 ∷ u32_spelling x
variable_bytes (variable.LocalSet x) = 0x21 ∷ u32_spelling x
variable_bytes (variable.LocalTee x) = 0x22 ∷ u32_spelling x
variable_bytes (variable.GlobalGet x) = 0x23 ∷ u32_spelling x
variable_bytes (variable.GlobalSet x) = 0x24 ∷ u32_spelling x

abbrev pub memory_argument_bytes : MemoryArgument → List ℕ
memory_argument_bytes a = u32_spelling a.align ++ u32_spelling a.offset

abbrev pub memory_bytes : Memory → List ℕ
memory_bytes (memory.Load l a) = load_opcode l ∷ memory_argument_bytes a
memory_bytes (memory.Store s a) = store_opcode s ∷ memory_argument_bytes a
memory_bytes memory.Size = 0x3F ∷ 0x00 ∷ []
memory_bytes memory.Grow = 0x40 ∷ 0x00 ∷ []

-- a constant is spelled as a signed number (5.2.2)
abbrev pub const_bytes : Value → List ℕ
const_bytes (value.I32 n) = 0x41 ∷ s32_spelling (signed 32 n)
const_bytes (value.I64 n) = 0x42 ∷ s64_spelling (signed 64 n)

abbrev pub plain_bytes : Plain → List ℕ
plain_bytes plain.Nop = 0x01 ∷ []
plain_bytes plain.Drop = 0x1A ∷ []
plain_bytes plain.Select = 0x1B ∷ []
plain_bytes (plain.Const v) = const_bytes v
plain_bytes (plain.Numeric op) = numeric_opcode op ∷ []
plain_bytes (plain.Variable op) = variable_bytes op
plain_bytes (plain.Memory op) = memory_bytes op

abbrev pub branch_bytes : Branch → List ℕ
branch_bytes (branch.Br l) = 0x0C ∷ u32_spelling l
branch_bytes (branch.BrIf l) = 0x0D ∷ u32_spelling l
branch_bytes (branch.BrTable ls l) = 0x0E ∷ (vector u32_spelling ls ++ u32_spelling l)
branch_bytes branch.Return = 0x0F ∷ []

-- the bytes of the arm for 0 after its `else`, or nothing where the arm is empty
abbrev pub else_bytes : Code → List ℕ → List ℕ
else_bytes code.end bytes = []
else_bytes _ bytes = 0x05 ∷ bytes

-- an instruction sequence, without its `end`
abbrev pub code_bytes : Code → List ℕ
code_bytes code.end = []
code_bytes (code.plain p rest) = plain_bytes p ++ code_bytes rest
code_bytes (code.branch b rest) = branch_bytes b ++ code_bytes rest
code_bytes (code.call f rest) = 0x10 ∷ (u32_spelling f ++ code_bytes rest)
code_bytes (code.call_indirect t rest) = 0x11 ∷ (u32_spelling t ++ 0x00 ∷ code_bytes rest)
code_bytes (code.unreachable rest) = 0x00 ∷ code_bytes rest
code_bytes (code.block t body rest) = 0x02 ∷ block_type_byte t ∷ (code_bytes body ++ 0x0B ∷ code_bytes rest)
code_bytes (code.loop t body rest) = 0x03 ∷ block_type_byte t ∷ (code_bytes body ++ 0x0B ∷ code_bytes rest)
code_bytes (code.choice t body other rest) =
    0x04 ∷ block_type_byte t ∷ (code_bytes body ++ (else_bytes other (code_bytes other) ++ 0x0B ∷ code_bytes rest))

-- one instruction
abbrev pub instr_bytes : Instr → List ℕ
instr_bytes i = code_bytes (then_code i code.end)

-- an expression: a sequence and its `end` (5.4.6)
unfoldable pub expression_bytes : Code → List ℕ
expression_bytes c = code_bytes c ++ 0x0B ∷ []

-- ---- the items of the sections (5.5), except functions

abbrev pub import_description_bytes : ImportDescription → List ℕ
import_description_bytes (import.Function t) = 0x00 ∷ u32_spelling t
import_description_bytes (import.Table l) = 0x01 ∷ table_bytes l
import_description_bytes (import.Memory l) = 0x02 ∷ limits_bytes l
import_description_bytes (import.Global t) = 0x03 ∷ global_type_bytes t

unfoldable pub import_bytes : Import → List ℕ
import_bytes i = sized i.module ++ (sized i.name ++ import_description_bytes i.description)

unfoldable pub type_number_bytes : Function → List ℕ
type_number_bytes f = u32_spelling f.type_number

unfoldable pub global_bytes : Global → List ℕ
global_bytes g = global_type_bytes g.global_type ++ expression_bytes g.initial

abbrev pub export_description_bytes : ExportDescription → List ℕ
export_description_bytes (export.Function x) = 0x00 ∷ u32_spelling x
export_description_bytes (export.Table x) = 0x01 ∷ u32_spelling x
export_description_bytes (export.Memory x) = 0x02 ∷ u32_spelling x
export_description_bytes (export.Global x) = 0x03 ∷ u32_spelling x

unfoldable pub export_bytes : Export → List ℕ
export_bytes e = sized e.name ++ export_description_bytes e.description

unfoldable pub element_bytes : Element → List ℕ
element_bytes e = u32_spelling e.table ++ (expression_bytes e.offset ++ vector u32_spelling e.functions)

unfoldable pub data_bytes : Data → List ℕ
data_bytes d = u32_spelling d.memory ++ (expression_bytes d.offset ++ sized d.bytes)
