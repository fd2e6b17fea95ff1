-- What calls count, by the list of what calls of the imported functions count.
use Rattle.std.proofs.Common.{◌≡◌, ℕ, zero, suc, List, [], ◌∷◌, None, map, get_or, slice_get, refl}
use Rattle.std.specs.Prelude.{filter}
use Rattle.std.specs.Option.{option_and_then}
use Rattle.wasm_ast.specs.declared.module.Import.{Import}
use Rattle.wasm_ast.specs.declared.module.Module.{Module}
use Rattle.wasm_ast.specs.Limits.{is_function}
use Rattle.verified.specs.Weights.{host_units, call_units, imported_units, units_at}
use Rattle.verified.specs.Imports.{call_of}

found : (is : List Import) (f : ℕ) → get_or (map (λ (i : Import). host_units (call_of i)) is) f (host_units None) ≡ host_units (option_and_then call_of (slice_get is f))
found [] f = refl
found (i ∷ is) zero = refl
found (i ∷ is) (suc f) = found is f

pub call_counts : (m : Module) (f : ℕ) → units_at (imported_units m.imports) f ≡ call_units m f
unfolding call_units
call_counts m f = found (filter is_function m.imports) f
