use Rattle.std.proofs.Common.{◌≡◌, ap, ◌∙◌}
use Rattle.wasm_ast.specs.declared.module.Module.{Module as AnyModule}
use Rattle.verified.specs.Weights.{imported_units, units_at, call_units}
use Rattle.cost.proofs.Weighing.{call_counts}
use Rattle.cost.proofs.weights.Weights.call.Goals as goal

pub returns : goal.returns
returns c =
    let listed : c.deref.result.now ≡ imported_units c.self.inside.module.now.imports = c.deref.ensures.value ∙ c.self.invariant in
    let same : c.self.inside.module.now ≡ c.args.self.now = cc in
    c.units_at.ensures ∙ ap (λ us. units_at us c.args.function) listed ∙ call_counts c.self.inside.module.now c.args.function ∙ ap (λ (m : AnyModule). call_units m c.args.function) same
