-- The typing of modules (Core 1.0, 3.2 and 3.4), with one rule for each part.
use Rattle.std.specs.Prelude.{◌≡◌, ◌≢◌, ℕ, ◌<◌, ◌≤◌, ⊤, List, [], ◌∷◌, ◌++◌, map, length, slice_get, Option, Some, None}
use Rattle.std.specs.List.{AllByRecursion}
use Rattle.wasm_ast.specs.declared.types.ValType.TheVariants.{I32}
use Rattle.wasm_ast.specs.declared.types.FuncType.{FuncType}
use Rattle.wasm_ast.specs.declared.types.Limits.{Limits}
use Rattle.wasm_ast.specs.declared.module.ExportDescription.{ExportDescription}
use Rattle.wasm_ast.specs.declared.module.ExportDescription.TheVariants as export
use Rattle.wasm_ast.specs.declared.module.Export.{Export}
use Rattle.wasm_ast.specs.declared.module.Function.{Function}
use Rattle.wasm_ast.specs.declared.module.Global.{Global}
use Rattle.wasm_ast.specs.declared.module.Element.{Element}
use Rattle.wasm_ast.specs.declared.module.Data.{Data}
use Rattle.wasm_ast.specs.declared.module.Module.{Module}
use Rattle.verified.specs.Spaces.{Spaces, function_type, first_type, outer_spaces_of, spaces_of}
use Rattle.verified.specs.Instructions.{BodyTyped}
use Rattle.verified.specs.Constants.{ConstantTyped}

-- ---- types (3.2)

-- at most one result (3.2.2)
abbrev pub TypeHolds : FuncType → Type 0
TypeHolds t = length t.results ≤ 1

-- a maximum is at least the minimum (3.2.1)
abbrev pub MaximumHolds : ℕ → Option ℕ → Type 0
MaximumHolds minimum None = ⊤
MaximumHolds minimum (Some maximum) = minimum ≤ maximum

-- 3.2.3: each number of 32 bits is within the range of tables
abbrev pub TableHolds : Limits → Type 0
TableHolds t = MaximumHolds t.minimum t.maximum

-- the most pages of a memory with 32-bit addresses (3.2.4)
abbrev pub max_pages : ℕ
max_pages = 65536

abbrev pub IsWithinPages : Option ℕ → Type 0
IsWithinPages None = ⊤
IsWithinPages (Some pages) = pages ≤ max_pages

-- 3.2.4
pub record MemoryHolds (t : Limits) : Type 0 where
  pub minimum : t.minimum ≤ max_pages
  pub maximum : IsWithinPages t.maximum
  pub ordered : MaximumHolds t.minimum t.maximum

-- ---- parts of a module (3.4)

-- the initialiser is constant, and of the global's type (3.4.4)
abbrev pub GlobalTyped : Spaces → Global → Type 0
GlobalTyped s g = ConstantTyped s g.global_type.value g.initial

-- the exported item exists (3.4.8)
abbrev pub ExportTyped : Spaces → ExportDescription → Type 0
ExportTyped s (export.Function x) = x < length s.functions
ExportTyped s (export.Table x) = x < length s.tables
ExportTyped s (export.Memory x) = x < length s.memories
ExportTyped s (export.Global x) = x < length s.globals

abbrev pub name_of_export : Export → List ℕ
name_of_export e = e.name

-- no two of these names are the same
abbrev pub AreDistinct : List (List ℕ) → Type 0
AreDistinct [] = ⊤
AreDistinct (x ∷ xs) = AllByRecursion (λ y. y ≢ x) xs × AreDistinct xs

-- the start function, if any, has no parameters and no results (3.4.7)
abbrev pub StartTyped : Spaces → Option ℕ → Type 0
StartTyped s None = ⊤
StartTyped s (Some f) = (t : FuncType) × (function_type s f ≡ Some t) × ((t.parameters ≡ []) × (t.results ≡ []))

-- 3.4.5
pub record ElementTyped (s : Spaces) (e : Element) : Type 0 where
  pub table : e.table < length s.tables
  pub offset : ConstantTyped s I32 e.offset
  pub functions : AllByRecursion (λ f. f < length s.functions) e.functions

-- 3.4.6
pub record DataTyped (s : Spaces) (d : Data) : Type 0 where
  pub «memory» : d.memory < length s.memories
  pub offset : ConstantTyped s I32 d.offset

-- the function's type exists, and the body is typed by it (3.4.1)
abbrev pub FunctionTyped : Spaces → Function → Type 0
FunctionTyped s f =
    (t : FuncType) × (slice_get s.types f.type_number ≡ Some t) × BodyTyped s (t.parameters ++ f.locals) (first_type t.results) f.body

-- 3.4.10
pub record IsTyped (m : Module) : Type 0 where
  pub types : AllByRecursion TypeHolds m.types
  -- the type of each function exists, imports included (3.4.9)
  pub functions : AllByRecursion (λ n. n < length m.types) (spaces_of m).functions
  pub one_table : length (spaces_of m).tables ≤ 1
  pub tables : AllByRecursion TableHolds (spaces_of m).tables
  pub one_memory : length (spaces_of m).memories ≤ 1
  pub memories : AllByRecursion MemoryHolds (spaces_of m).memories
  pub globals : AllByRecursion (GlobalTyped (outer_spaces_of m)) m.globals
  pub exports : AllByRecursion (λ (e : Export). ExportTyped (spaces_of m) e.description) m.exports
  pub names : AreDistinct (map name_of_export m.exports)
  pub start : StartTyped (spaces_of m) m.start
  pub elements : AllByRecursion (ElementTyped (spaces_of m)) m.elements
  pub segments : AllByRecursion (DataTyped (spaces_of m)) m.data
  pub bodies : AllByRecursion (FunctionTyped (spaces_of m)) m.functions
