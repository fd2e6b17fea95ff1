-- The function `compute` among the exports.
use Rattle.std.specs.Prelude.{◌≡◌, ℕ, ◌-◌, ◌≤◌, Bool, List, slice_get, find, bytes_eq, codes, Option, Some, None}
use Rattle.std.specs.Option.{option_and_then}
use Rattle.wasm_ast.specs.declared.module.ExportDescription.{ExportDescription}
use Rattle.wasm_ast.specs.declared.module.ExportDescription.TheVariants as export
use Rattle.wasm_ast.specs.declared.module.Export.{Export}
use Rattle.wasm_ast.specs.declared.module.Function.{Function}
use Rattle.wasm_ast.specs.declared.module.Module.{Module}
use Rattle.wasm_ast.specs.Limits.{imported_functions}
use Rattle.verified.specs.Profile.{HasCompute, plain_type}

abbrev pub has_its_name : Export → Bool
has_its_name e = bytes_eq e.name (codes "compute")

abbrev pub exported_function : ExportDescription → Option ℕ
exported_function (export.Function f) = Some f
exported_function (export.Table t) = None
exported_function (export.Memory t) = None
exported_function (export.Global t) = None

-- the number of the first function that is exported as `compute`
abbrev pub exported_compute : List Export → Option ℕ
exported_compute exports =
    option_and_then (λ (e : Export). exported_function e.description) (find has_its_name exports)

-- the function has no parameters and no results
abbrev pub OfPlainType : Module → Option Function → Type 0
OfPlainType m None = ⊥
OfPlainType m (Some f) = slice_get m.types f.type_number ≡ Some plain_type

-- the module defines the function with this number, without parameters and results
abbrev pub IsDefinedPlain : Module → ℕ → Type 0
IsDefinedPlain m number =
    (imported_functions m.imports ≤ number)
    × OfPlainType m (slice_get m.functions (number - imported_functions m.imports))

-- the number is the one of `compute`, and there is no other
pub record IsComputeNumber (m : Module) (number : ℕ) : Type 0 where
  pub compute : HasCompute m
  pub here : compute.number ≡ number
  pub only : (other : HasCompute m) → other.number ≡ number
