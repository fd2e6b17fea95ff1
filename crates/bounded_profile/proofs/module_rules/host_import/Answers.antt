use Rattle.std.proofs.Common.{◌≡◌, ◌∙◌, ◌<◌, ℕ, List, Option, Some, None, arith, length, refl, subst, sym}
use Rattle.std.specs.Prelude.{IfNone, IfSome, slice_get}
use Rattle.std.proofs.lemmas.Option.{slice_get_read}
use Rattle.wasm_ast.specs.declared.types.FuncType.{FuncType}
use Rattle.wasm_ast.specs.declared.module.ImportDescription.TheVariants as import
use Rattle.wasm_ast.specs.declared.module.Import.{Import}
use Rattle.wasm_ast.specs.declared.module.Module.{Module}
use Rattle.verified.specs.declared.imports.HostCall.{HostCall}
use Rattle.verified.specs.Hosts.{IsHostImport}
use Rattle.verified.specs.Imports.{BringsIn}
use Rattle.bounded_profile.proofs.module_rules.host_import.Goals as goal

-- The import is of the function type with this number, and these texts are its module's name and its own.
module _ (m : Module) (i : Import) (number : ℕ) (type : FuncType) (of name : List ℕ)
    (described : i.description ≡ import.Function number) (typed : slice_get m.types number ≡ Some type)
    (of_is : of ≡ i.«module») (name_is : name ≡ i.name) where
  brought : (call : Option HostCall) → IfSome call (BringsIn of name type) → IfSome call (λ call. IsHostImport m i)
  brought None brings = tt
  brought (Some call) brings = record {
    host_call = call;
    type_number = number;
    function_type = type;
    describes = described;
    typed = typed;
    brings_in = record { of_module = sym of_is ∙ brings.of_module; of_name = sym name_is ∙ brings.of_name; of_type = brings.of_type };
  }

  not_brought : (call : Option HostCall) → IfNone call ((call : HostCall) → BringsIn of name type call → ⊥) → IfNone call (IsHostImport m i → ⊥)
  not_brought (Some call) none = tt
  not_brought None none = λ h.
      let same : type ≡ h.function_type = cc (described, typed, h.describes, h.typed) in
      let brings = h.brings_in in
      none h.host_call (record { of_module = of_is ∙ brings.of_module; of_name = name_is ∙ brings.of_name; of_type = same ∙ brings.of_type })

pub returns-clause-found : goal.returns-clause-found
returns-clause-found c =
    let m = c.args.module.now in
    let i = c.args.import.now in
    let number = c.in-Function.number in
    let type = c.in_ok-func_type.func_type.now in
    let types = c.as_slice.result.now in
    let lookup = c.in_ok-func_type.ensures.lookup in
    let low : number < length types = omega arith in
    let listed = slice_get_read types (length types) number type refl low lookup.1 in
    let typed = subst (λ (ts : List FuncType). slice_get ts number ≡ Some type) c.as_slice.ensures listed in
    brought m i number type c.as_str.result.now c.as_str-2.result.now c.in-Function.is typed c.as_str.ensures c.as_str-2.ensures
    c.of_import.result c.of_import.ensures.found

pub returns-clause-none : goal.returns-clause-none
returns-clause-none c =
    let m = c.args.module.now in
    let i = c.args.import.now in
    let number = c.in-Function.number in
    let type = c.in_ok-func_type.func_type.now in
    let types = c.as_slice.result.now in
    let lookup = c.in_ok-func_type.ensures.lookup in
    let low : number < length types = omega arith in
    let listed = slice_get_read types (length types) number type refl low lookup.1 in
    let typed = subst (λ (ts : List FuncType). slice_get ts number ≡ Some type) c.as_slice.ensures listed in
    not_brought m i number type c.as_str.result.now c.as_str-2.result.now c.in-Function.is typed c.as_str.ensures c.as_str-2.ensures
    c.of_import.result c.of_import.ensures.none
