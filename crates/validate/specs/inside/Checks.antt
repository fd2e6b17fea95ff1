-- The findings of the checks of constant expressions, one function for each rule of `Constants`. The rules of `Modules`
-- are in two parts here.
use Rattle.std.specs.Prelude.{ℕ, ◌<◌, ◌≤◌, ◌++◌, List, length, map, Option, Some, None, slice_get}
use Rattle.std.specs.List.{AllByRecursion}
use Rattle.std.specs.Option.{option_and_then}
use Rattle.wasm_ast.specs.declared.types.ValType.{ValType}
use Rattle.wasm_ast.specs.declared.types.FuncType.{FuncType}
use Rattle.wasm_ast.specs.declared.types.GlobalType.{GlobalType}
use Rattle.wasm_ast.specs.declared.types.Mutability.{Mutability}
use Rattle.wasm_ast.specs.declared.types.Mutability.TheVariants as mutability
use Rattle.wasm_ast.specs.declared.plain.Variable.{Variable}
use Rattle.wasm_ast.specs.declared.plain.Variable.TheVariants as variable
use Rattle.wasm_ast.specs.declared.plain.Plain.{Plain}
use Rattle.wasm_ast.specs.declared.plain.Plain.TheVariants as plain
use Rattle.wasm_ast.specs.declared.module.Export.{Export}
use Rattle.wasm_ast.specs.declared.module.Function.{Function}
use Rattle.wasm_ast.specs.declared.module.Global.{Global}
use Rattle.wasm_ast.specs.declared.module.Module.{Module}
use Rattle.wasm_ast.specs.Code.{Code}
use Rattle.wasm_ast.specs.Code as code
use Rattle.wasm_ast.specs.Values.{type_of}
use Rattle.verified.specs.Spaces.{Spaces}
use Rattle.verified.specs.Modules.{TableHolds, MemoryHolds, GlobalTyped, ExportTyped, name_of_export, AreDistinct, StartTyped, ElementTyped, DataTyped, FunctionTyped}

-- the instruction, where no code comes after it
abbrev pub if_last : Plain → Code → Option Plain
if_last p code.end = Some p
if_last p (code.plain q rest) = None
if_last p (code.branch b rest) = None
if_last p (code.call f rest) = None
if_last p (code.call_indirect n rest) = None
if_last p (code.unreachable rest) = None
if_last p (code.block t body rest) = None
if_last p (code.loop t body rest) = None
if_last p (code.choice t body other rest) = None

-- the only instruction, if there is exactly one and it is plain
abbrev pub only_plain : Code → Option Plain
only_plain code.end = None
only_plain (code.plain p rest) = if_last p rest
only_plain (code.branch b rest) = None
only_plain (code.call f rest) = None
only_plain (code.call_indirect n rest) = None
only_plain (code.unreachable rest) = None
only_plain (code.block t body rest) = None
only_plain (code.loop t body rest) = None
only_plain (code.choice t body other rest) = None

abbrev pub constant_if : Mutability → ValType → Option ValType
constant_if mutability.Constant t = Some t
constant_if mutability.Variable t = None

-- the type of a constant global
abbrev pub global_constant : GlobalType → Option ValType
global_constant g = constant_if g.mutability g.value

abbrev pub variable_constant : Spaces → Variable → Option ValType
variable_constant s (variable.GlobalGet x) = option_and_then global_constant (slice_get s.globals x)
variable_constant s (variable.LocalGet x) = None
variable_constant s (variable.LocalSet x) = None
variable_constant s (variable.LocalTee x) = None
variable_constant s (variable.GlobalSet x) = None

-- the type of the instruction's value, if the instruction is constant
abbrev pub plain_constant : Spaces → Plain → Option ValType
plain_constant s (plain.Const v) = Some (type_of v)
plain_constant s (plain.Variable op) = variable_constant s op
plain_constant s plain.Nop = None
plain_constant s plain.Drop = None
plain_constant s plain.Select = None
plain_constant s (plain.Numeric op) = None
plain_constant s (plain.Memory op) = None

abbrev pub constant_type : Spaces → Code → Option ValType
constant_type s body = option_and_then (plain_constant s) (only_plain body)

-- ---- parts of modules

-- the type of each function exists
abbrev pub FunctionTypesHold : Spaces → Type 0
FunctionTypesHold s = AllByRecursion (λ n. n < length s.types) s.functions

-- each export names something that exists
abbrev pub ExportsTyped : Spaces → List Export → Type 0
ExportsTyped s exports = AllByRecursion (λ (e : Export). ExportTyped s e.description) exports

-- no two exports have the same name
abbrev pub HaveDistinctNames : List Export → Type 0
HaveDistinctNames exports = AreDistinct (map name_of_export exports)

-- the indices of the functions' types
abbrev pub type_numbers : List Function → List ℕ
type_numbers functions = map (λ (f : Function). f.type_number) functions

-- the types of globals
abbrev pub global_types : List Global → List GlobalType
global_types globals = map (λ (g : Global). g.global_type) globals

-- the types of a function's locals, its parameters first
abbrev pub all_locals : FuncType → Function → List ValType
all_locals t f = t.parameters ++ f.locals

-- ---- modules

-- the rules that use only the imported globals
pub record OuterTyped (m : Module) (s : Spaces) : Type 0 where
  pub functions : FunctionTypesHold s
  pub tables : (length s.tables ≤ 1) × AllByRecursion TableHolds s.tables
  pub memories : (length s.memories ≤ 1) × AllByRecursion MemoryHolds s.memories
  pub globals : AllByRecursion (GlobalTyped s) m.globals

-- the rules that use all globals
pub record InnerTyped (m : Module) (s : Spaces) : Type 0 where
  pub exports : ExportsTyped s m.exports
  pub names : HaveDistinctNames m.exports
  pub start : StartTyped s m.start
  pub elements : AllByRecursion (ElementTyped s) m.elements
  pub segments : AllByRecursion (DataTyped s) m.data
  pub bodies : AllByRecursion (FunctionTyped s) m.functions
