-- What calls count.
use Rattle.std.proofs.Common.{◌≡◌, ℕ, zero, suc, List, [], ◌∷◌, Some, map, slice_get, cond, refl, sym, ap, ◌∙◌}
use Rattle.std.specs.Prelude.{filter}
use Rattle.std.specs.Option.{option_and_then}
use Rattle.wasm_ast.specs.declared.module.ImportDescription.{ImportDescription}
use Rattle.wasm_ast.specs.declared.module.ImportDescription.TheVariants as import
use Rattle.wasm_ast.specs.declared.module.Import.{Import}
use Rattle.wasm_ast.specs.declared.module.Module.{Module}
use Rattle.wasm_ast.specs.Limits.{is_function, is_function_description}
use Rattle.verified.specs.declared.imports.HostCall.{HostCall}
use Rattle.verified.specs.Imports.{call_of}
use Rattle.verified.specs.Weights.{host_units, call_units}
use Rattle.semantics.specs.Machine.{Callee, host, function_import}
use Rattle.semantics.specs.Machine as machine
use Rattle.interp.specs.inside.Meaning.{host_callee, AreImports}

abbrev named : Import → Callee
named i = host (call_of i)

first_named : (i : Import) (is : List Import) (d : ImportDescription) → machine.imported_functions is ≡ map named (filter is_function is) → function_import i d (machine.imported_functions is) ≡ map named (cond (is_function_description d) (i ∷ filter is_function is) (filter is_function is))
first_named i is (import.Function t) e = ap (λ (cs : List Callee). named i ∷ cs) e
first_named i is (import.Table t) e = e
first_named i is (import.Memory t) e = e
first_named i is (import.Global t) e = e

all_named : (is : List Import) → machine.imported_functions is ≡ map named (filter is_function is)
all_named [] = refl
all_named (i ∷ is) = first_named i is i.description (all_named is)

same_call : (is : List Import) (calls : List HostCall) → map named is ≡ map host_callee calls → (f : ℕ) → option_and_then call_of (slice_get is f) ≡ slice_get calls f
same_call [] [] e f = refl
same_call [] (c ∷ cs) e f = absurd cc
same_call (i ∷ is) [] e f = absurd cc
same_call (i ∷ is) (c ∷ cs) e zero = let h : host (call_of i) ≡ host (Some c) = cc in let g : call_of i ≡ Some c = cc in g
same_call (i ∷ is) (c ∷ cs) e (suc f) = let h : map named is ≡ map host_callee cs = cc in same_call is cs h f

-- a call counts by the host's function that it names, if any
pub call_counts : (m : Module) (calls : List HostCall) → AreImports calls m → (f : ℕ) → host_units (slice_get calls f) ≡ call_units m f
unfolding call_units
call_counts m calls a f = ap host_units (sym (same_call (filter is_function m.imports) calls (sym (all_named m.imports) ∙ a) f))
