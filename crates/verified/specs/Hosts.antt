-- The host's functions that a module imports.
use Rattle.std.specs.Prelude.{◌≡◌, ℕ, List, map, filter, slice_get, Option, Some}
use Rattle.std.specs.Option.{option_and_then, option_flatten}
use Rattle.wasm_ast.specs.declared.types.FuncType.{FuncType}
use Rattle.wasm_ast.specs.declared.module.ImportDescription.TheVariants as import
use Rattle.wasm_ast.specs.declared.module.Import.{Import}
use Rattle.wasm_ast.specs.declared.module.Module.{Module}
use Rattle.wasm_ast.specs.Limits.{is_function}
use Rattle.verified.specs.declared.imports.HostCall.{HostCall}
use Rattle.verified.specs.Imports.{BringsIn, call_of}

-- the import is a function of module `pregel`, by its name and type
pub record IsHostImport (m : Module) (i : Import) : Type 0 where
  pub host_call : HostCall
  pub type_number : ℕ
  pub function_type : FuncType
  pub describes : i.description ≡ import.Function type_number
  pub typed : slice_get m.types type_number ≡ Some function_type
  pub brings_in : BringsIn i.«module» i.name function_type host_call

-- the host's function with this number, by the names of the import
abbrev pub host_call_at : Module → ℕ → Option HostCall
host_call_at m f = option_and_then call_of (slice_get (filter is_function m.imports) f)

-- the host's function for each imported function
abbrev pub host_table : Module → List (Option HostCall)
host_table m = map call_of (filter is_function m.imports)

-- these are the host's functions that the module imports, in order; each imported function is one of them
abbrev pub AreHostCalls : Module → List HostCall → Type 0
AreHostCalls m calls = host_table m ≡ map Some calls

abbrev pub call_at : List (Option HostCall) → ℕ → Option HostCall
call_at table f = option_flatten (slice_get table f)
