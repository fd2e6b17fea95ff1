-- The index spaces of a module (Core 1.0, 2.5.1 and 3.1.1), the imports first.
use Rattle.std.specs.Prelude.{ℕ, List, [], ◌∷◌, ◌++◌, map, slice_get, Option, Some, None}
use Rattle.std.specs.Option.{option_and_then}
use Rattle.std.specs.List.{filter_map}
use Rattle.wasm_ast.specs.declared.types.ValType.{ValType}
use Rattle.wasm_ast.specs.declared.types.FuncType.{FuncType}
use Rattle.wasm_ast.specs.declared.types.GlobalType.{GlobalType}
use Rattle.wasm_ast.specs.declared.types.Limits.{Limits}
use Rattle.wasm_ast.specs.declared.module.ImportDescription.{ImportDescription}
use Rattle.wasm_ast.specs.declared.module.ImportDescription.TheVariants as import
use Rattle.wasm_ast.specs.declared.module.Import.{Import}
use Rattle.wasm_ast.specs.declared.module.Function.{Function}
use Rattle.wasm_ast.specs.declared.module.Global.{Global}
use Rattle.wasm_ast.specs.declared.module.Module.{Module}

pub record Spaces : Type 0 where
  pub types : List FuncType
  -- the index of each function's type
  pub functions : List ℕ
  pub tables : List Limits
  pub memories : List Limits
  pub globals : List GlobalType

-- the type of the function with this index, where both exist
abbrev pub function_type : Spaces → ℕ → Option FuncType
function_type s f = option_and_then (λ n. slice_get s.types n) (slice_get s.functions f)

-- the type of a function's result, where it has at most one (3.2.2)
abbrev pub first_type : List ValType → Option ValType
first_type [] = None
first_type (t ∷ ts) = Some t

-- ---- imports (2.5.11)

abbrev pub function_import : ImportDescription → Option ℕ
function_import (import.Function n) = Some n
function_import (import.Table t) = None
function_import (import.Memory t) = None
function_import (import.Global t) = None

abbrev pub table_import : ImportDescription → Option Limits
table_import (import.Function n) = None
table_import (import.Table t) = Some t
table_import (import.Memory t) = None
table_import (import.Global t) = None

abbrev pub memory_import : ImportDescription → Option Limits
memory_import (import.Function n) = None
memory_import (import.Table t) = None
memory_import (import.Memory t) = Some t
memory_import (import.Global t) = None

abbrev pub global_import : ImportDescription → Option GlobalType
global_import (import.Function n) = None
global_import (import.Table t) = None
global_import (import.Memory t) = None
global_import (import.Global t) = Some t

-- the imports of one kind, in order
abbrev pub imported : {A : Type 0} → (ImportDescription → Option A) → List Import → List A
imported kind imports = filter_map (λ (i : Import). kind i.description) imports

-- ---- the spaces

-- the spaces in which global initialisers are checked (3.4.10): only the imported globals
abbrev pub outer_spaces_of : Module → Spaces
outer_spaces_of m = record {
  types = m.types;
  functions = imported function_import m.imports ++ map (λ (f : Function). f.type_number) m.functions;
  tables = imported table_import m.imports ++ m.tables;
  memories = imported memory_import m.imports ++ m.memories;
  globals = imported global_import m.imports;
}

-- the spaces, with these globals after their own
abbrev pub with_globals : List Global → Spaces → Spaces
with_globals gs s = record s { globals = s.globals ++ map (λ (g : Global). g.global_type) gs }

abbrev pub spaces_of : Module → Spaces
spaces_of m = with_globals m.globals (outer_spaces_of m)
