use Rattle.std.proofs.Common.{subst}
use Rattle.semantics.specs.Outcomes.{HasOneOutcome}
use Rattle.superstep.proofs.job.Job.has_meaning.Goals as goal

pub returns : goal.returns
returns c =
    let told = c.module-module.ensures in
    let one = subst HasOneOutcome c.verified.ensures (c.calls_are_a_function.ensures.one c.verified.result.now told.typed told.bounded) in
    let graph = c.settings.ensures.graph in
    record { graph = graph.0; is_graph = graph.1; outcomes = one.outcomes; are = one.are }
