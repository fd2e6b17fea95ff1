use Rattle.std.proofs.Common.{true, refl, sym, ◌∙◌}
use Rattle.verified.specs.Imports.{type_of_call}
use Rattle.verified.proofs.Table.{same_types-Decides, same_type_of}
use Rattle.verified.proofs.imports.HostCall.has_type.Goals as goal

pub returns-then-eq : goal.returns-then-eq
returns-then-eq c =
    let parameters = (same_types-Decides c.as_slice.result.now c.type_of-call_type.result.parameters.now true c.if-eq.ensures).0 refl in
    let results = same_types-Decides c.as_slice-then-eq.result.now c.type_of-call_type.result.results.now c.eq-then-eq.result c.eq-then-eq.ensures in
    same_type_of c.args.func_type.now (type_of_call c.args.self) c.eq-then-eq.result
    (sym c.as_slice.ensures ∙ parameters ∙ c.type_of-call_type.ensures.parameters)
    (rw (c.as_slice-then-eq.ensures, c.type_of-call_type.ensures.results) at results)
