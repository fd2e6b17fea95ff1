-- A module is typed where its types are, and both parts of its rules hold.
use Rattle.std.proofs.Common.{◌≡◌, List, subst, sym, ap, ◌∙◌}
use Rattle.std.specs.Prelude.{Result, Ok, Err}
use Rattle.std.specs.List.{AllByRecursion}
use Rattle.wasm_ast.specs.declared.types.FuncType.{FuncType}
use Rattle.wasm_ast.specs.declared.module.Global.{Global}
use Rattle.wasm_ast.specs.declared.module.Module.{Module}
use Rattle.wasm_ast.specs.Limits.{IsWithinLimits}
use Rattle.validate.specs.declared.fault.ValidFault.{ValidFault}
use Rattle.validate.specs.declared.fault.ValidFault.TheVariants as fault
use Rattle.verified.specs.Spaces.{Spaces, outer_spaces_of, with_globals, spaces_of}
use Rattle.verified.specs.Modules.{TypeHolds, IsTyped}
use Rattle.validate.specs.inside.Checks.{OuterTyped, InnerTyped}
use Rattle.validate.specs.inside.Findings.{Denies, Settles}

pub outer_of : (m : Module) → IsTyped m → OuterTyped m (outer_spaces_of m)
outer_of m t = record {
  functions = t.functions;
  tables = (t.one_table, t.tables);
  memories = (t.one_memory, t.memories);
  globals = t.globals;
}

pub inner_of : (m : Module) → IsTyped m → InnerTyped m (spaces_of m)
inner_of m t = record {
  exports = t.exports;
  names = t.names;
  start = t.start;
  elements = t.elements;
  segments = t.segments;
  bodies = t.bodies;
}

pub whole : (m : Module) → AllByRecursion TypeHolds m.types → OuterTyped m (outer_spaces_of m) → InnerTyped m (spaces_of m) → IsTyped m
whole m types o i = record {
  types = types;
  functions = o.functions;
  one_table = o.tables.0;
  tables = o.tables.1;
  one_memory = o.memories.0;
  memories = o.memories.1;
  globals = o.globals;
  exports = i.exports;
  names = i.names;
  start = i.start;
  elements = i.elements;
  segments = i.segments;
  bodies = i.bodies;
}

-- what is denied of a part is denied of the whole
pub part_denied : (e : ValidFault) (p q : Type 0) → (p → q) → Denies e q → Denies e p
part_denied fault.OutOfMemory p q f d = tt
part_denied (fault.Breaks rule place) p q f d = λ h. d (f h)

pub settled : (m : Module) (types : List FuncType) (gs : List Global) (s u : Spaces) (r : Result (Unit {0}) ValidFault) → types ≡ m.types → gs ≡ m.globals → s ≡ outer_spaces_of m → u ≡ with_globals gs s → AllByRecursion TypeHolds types → IsWithinLimits m → OuterTyped m s → Settles (InnerTyped m u) r → Settles (IsTyped m × IsWithinLimits m) r
settled m types gs s u r te ge se ue holds within outer h =
    let t : AllByRecursion TypeHolds m.types = subst (AllByRecursion TypeHolds) te holds in
    let o : OuterTyped m (outer_spaces_of m) = subst (OuterTyped m) se outer in
    let all : u ≡ spaces_of m = ue ∙ ap (λ g. with_globals g s) ge ∙ ap (with_globals m.globals) se in
    by_answer t o r (subst (λ (x : Spaces). Settles (InnerTyped m x) r) all h)
  where
    by_answer : AllByRecursion TypeHolds m.types → OuterTyped m (outer_spaces_of m) → (r : Result (Unit {0}) ValidFault) → Settles (InnerTyped m (spaces_of m)) r → Settles (IsTyped m × IsWithinLimits m) r
    by_answer t o (Ok x) i = (whole m t o i, within)
    by_answer t o (Err e) d = part_denied e (IsTyped m × IsWithinLimits m) (InnerTyped m (spaces_of m)) (λ p. inner_of m p.0) d

pub outer_denied : (m : Module) (s : Spaces) (e f : ValidFault) → s ≡ outer_spaces_of m → f ≡ e → Denies e (OuterTyped m s) → Denies f (IsTyped m × IsWithinLimits m)
outer_denied m s e f se fe d =
    subst (λ x. Denies x (IsTyped m × IsWithinLimits m)) (sym fe) (part_denied e (IsTyped m × IsWithinLimits m) (OuterTyped m (outer_spaces_of m)) (λ p. outer_of m p.0) (subst (λ x. Denies e (OuterTyped m x)) se d))
