-- The modules that the program's types can represent: numbers have 32 bits, constants have their type's width, names
-- are UTF-8 and data are bytes (Core 1.0, 2.2). No other module has a binary form. The definitions in this folder
-- otherwise allow any number.
use Rattle.std.specs.Prelude.{ℕ, ◌<◌, ◌^◌, ⊤, Option, Some, None}
use Rattle.std.specs.List.{AllByRecursion}
use Rattle.std.specs.Str.{IsUtf8}
use Rattle.wasm_ast.specs.declared.types.Value.{Value}
use Rattle.wasm_ast.specs.declared.types.Value.TheVariants as value
use Rattle.wasm_ast.specs.declared.types.Limits.{Limits}
use Rattle.wasm_ast.specs.declared.plain.Variable.{Variable}
use Rattle.wasm_ast.specs.declared.plain.Variable.TheVariants as variable
use Rattle.wasm_ast.specs.declared.plain.Memory.{Memory}
use Rattle.wasm_ast.specs.declared.plain.Memory.TheVariants as memory
use Rattle.wasm_ast.specs.declared.plain.MemoryArgument.{MemoryArgument}
use Rattle.wasm_ast.specs.declared.plain.Plain.{Plain}
use Rattle.wasm_ast.specs.declared.plain.Plain.TheVariants as plain
use Rattle.wasm_ast.specs.declared.plain.Branch.{Branch}
use Rattle.wasm_ast.specs.declared.plain.Branch.TheVariants as branch
use Rattle.wasm_ast.specs.declared.module.ImportDescription.{ImportDescription}
use Rattle.wasm_ast.specs.declared.module.ImportDescription.TheVariants as import
use Rattle.wasm_ast.specs.declared.module.Import.{Import}
use Rattle.wasm_ast.specs.declared.module.Function.{Function}
use Rattle.wasm_ast.specs.declared.module.Global.{Global}
use Rattle.wasm_ast.specs.declared.module.ExportDescription.{ExportDescription}
use Rattle.wasm_ast.specs.declared.module.ExportDescription.TheVariants as export
use Rattle.wasm_ast.specs.declared.module.Export.{Export}
use Rattle.wasm_ast.specs.declared.module.Element.{Element}
use Rattle.wasm_ast.specs.declared.module.Data.{Data}
use Rattle.wasm_ast.specs.declared.module.Module.{Module}
use Rattle.wasm_ast.specs.Code.{Code}
use Rattle.wasm_ast.specs.Code as code

abbrev pub IsU32 : ℕ → Type 0
IsU32 n = n < 2 ^ 32

-- a byte (2.2.1)
abbrev pub IsByte : ℕ → Type 0
IsByte b = b < 256

abbrev pub IsOptionalU32 : Option ℕ → Type 0
IsOptionalU32 None = ⊤
IsOptionalU32 (Some n) = IsU32 n

abbrev pub AreLimitsHeld : Limits → Type 0
AreLimitsHeld l = IsU32 l.minimum × IsOptionalU32 l.maximum

-- ---- instructions

abbrev pub IsValueHeld : Value → Type 0
IsValueHeld (value.I32 n) = n < 2 ^ 32
IsValueHeld (value.I64 n) = n < 2 ^ 64

abbrev pub IsVariableHeld : Variable → Type 0
IsVariableHeld (variable.LocalGet x) = IsU32 x
IsVariableHeld (variable.LocalSet x) = IsU32 x
IsVariableHeld (variable.LocalTee x) = IsU32 x
IsVariableHeld (variable.GlobalGet x) = IsU32 x
IsVariableHeld (variable.GlobalSet x) = IsU32 x

abbrev pub IsArgumentHeld : MemoryArgument → Type 0
IsArgumentHeld a = IsU32 a.align × IsU32 a.offset

abbrev pub IsMemoryHeld : Memory → Type 0
IsMemoryHeld (memory.Load op a) = IsArgumentHeld a
IsMemoryHeld (memory.Store op a) = IsArgumentHeld a
IsMemoryHeld memory.Size = ⊤
IsMemoryHeld memory.Grow = ⊤

abbrev pub IsPlainHeld : Plain → Type 0
IsPlainHeld plain.Nop = ⊤
IsPlainHeld plain.Drop = ⊤
IsPlainHeld plain.Select = ⊤
IsPlainHeld (plain.Const v) = IsValueHeld v
IsPlainHeld (plain.Numeric op) = ⊤
IsPlainHeld (plain.Variable op) = IsVariableHeld op
IsPlainHeld (plain.Memory op) = IsMemoryHeld op

abbrev pub IsBranchHeld : Branch → Type 0
IsBranchHeld (branch.Br l) = IsU32 l
IsBranchHeld (branch.BrIf l) = IsU32 l
IsBranchHeld (branch.BrTable ls l) = AllByRecursion IsU32 ls × IsU32 l
IsBranchHeld branch.Return = ⊤

abbrev pub IsCodeHeld : Code → Type 0
IsCodeHeld code.end = ⊤
IsCodeHeld (code.plain p rest) = IsPlainHeld p × IsCodeHeld rest
IsCodeHeld (code.branch b rest) = IsBranchHeld b × IsCodeHeld rest
IsCodeHeld (code.call f rest) = IsU32 f × IsCodeHeld rest
IsCodeHeld (code.call_indirect t rest) = IsU32 t × IsCodeHeld rest
IsCodeHeld (code.unreachable rest) = IsCodeHeld rest
IsCodeHeld (code.block t body rest) = IsCodeHeld body × IsCodeHeld rest
IsCodeHeld (code.loop t body rest) = IsCodeHeld body × IsCodeHeld rest
IsCodeHeld (code.choice t body other rest) = IsCodeHeld body × IsCodeHeld other × IsCodeHeld rest

-- ---- the contents of the sections

abbrev pub IsImportDescriptionHeld : ImportDescription → Type 0
IsImportDescriptionHeld (import.Function t) = IsU32 t
IsImportDescriptionHeld (import.Table l) = AreLimitsHeld l
IsImportDescriptionHeld (import.Memory l) = AreLimitsHeld l
IsImportDescriptionHeld (import.Global t) = ⊤

abbrev pub IsImportHeld : Import → Type 0
IsImportHeld i = IsUtf8 i.module × IsUtf8 i.name × IsImportDescriptionHeld i.description

abbrev pub IsFunctionHeld : Function → Type 0
IsFunctionHeld f = IsU32 f.type_number × IsCodeHeld f.body

abbrev pub IsGlobalHeld : Global → Type 0
IsGlobalHeld g = IsCodeHeld g.initial

abbrev pub IsExportDescriptionHeld : ExportDescription → Type 0
IsExportDescriptionHeld (export.Function x) = IsU32 x
IsExportDescriptionHeld (export.Table x) = IsU32 x
IsExportDescriptionHeld (export.Memory x) = IsU32 x
IsExportDescriptionHeld (export.Global x) = IsU32 x

abbrev pub IsExportHeld : Export → Type 0
IsExportHeld e = IsUtf8 e.name × IsExportDescriptionHeld e.description

abbrev pub IsElementHeld : Element → Type 0
IsElementHeld e = IsU32 e.table × IsCodeHeld e.offset × AllByRecursion IsU32 e.functions

abbrev pub IsDataHeld : Data → Type 0
IsDataHeld d = IsU32 d.memory × IsCodeHeld d.offset × AllByRecursion IsByte d.bytes

pub record IsRepresentable (m : Module) : Type 0 where
  pub imports : AllByRecursion IsImportHeld m.imports
  pub functions : AllByRecursion IsFunctionHeld m.functions
  pub tables : AllByRecursion AreLimitsHeld m.tables
  pub memories : AllByRecursion AreLimitsHeld m.memories
  pub globals : AllByRecursion IsGlobalHeld m.globals
  pub exports : AllByRecursion IsExportHeld m.exports
  pub start : IsOptionalU32 m.start
  pub elements : AllByRecursion IsElementHeld m.elements
  pub segments : AllByRecursion IsDataHeld m.data
