-- The functions that a module's imports bring into the machine are those of the host.
use Rattle.std.proofs.Common.{◌≡◌, cond, List, [], ◌∷◌, map, Option, Some, refl, ap, ◌∙◌}
use Rattle.std.specs.Prelude.{filter}
use Rattle.wasm_ast.specs.declared.module.ImportDescription.{ImportDescription}
use Rattle.wasm_ast.specs.declared.module.ImportDescription.TheVariants as import
use Rattle.wasm_ast.specs.declared.module.Import.{Import}
use Rattle.wasm_ast.specs.declared.module.Module.{Module}
use Rattle.wasm_ast.specs.Limits.{is_function, is_function_description}
use Rattle.verified.specs.declared.imports.HostCall.{HostCall}
use Rattle.verified.specs.Imports.{call_of}
use Rattle.verified.specs.Hosts.{AreHostCalls}
use Rattle.semantics.specs.Machine.{Callee, host, function_import, imported_functions}
use Rattle.interp.specs.inside.Meaning.{AreImports, host_callee}

abbrev hosts : List Import → List Callee
hosts is = map host (map call_of is)

first : (i : Import) (d : ImportDescription) (others : List Callee) (rest : List Import) → others ≡ hosts rest → function_import i d others ≡ hosts (cond (is_function_description d) (i ∷ rest) rest)
first i (import.Function t) others rest e = ap (λ (cs : List Callee). host (call_of i) ∷ cs) e
first i (import.Table t) others rest e = e
first i (import.Memory t) others rest e = e
first i (import.Global t) others rest e = e

all : (is : List Import) → imported_functions is ≡ hosts (filter is_function is)
all [] = refl
all (i ∷ is) = first i i.description (imported_functions is) (filter is_function is) (all is)

there : (calls : List HostCall) → map host (map Some calls) ≡ map host_callee calls
there [] = refl
there (c ∷ cs) = ap (λ (xs : List Callee). host (Some c) ∷ xs) (there cs)

pub imports_are : (m : Module) (calls : List HostCall) → AreHostCalls m calls → AreImports calls m
imports_are m calls e = all m.imports ∙ ap (λ (os : List (Option HostCall)). map host os) e ∙ there calls
