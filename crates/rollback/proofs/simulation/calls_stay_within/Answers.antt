use Rattle.std.proofs.Common.{refl, subst}
use Rattle.semantics.specs.Outcomes.{HasOneOutcome}
use Rattle.rollback.specs.Simulation.{CallsStayWithin}
use Rattle.rollback.proofs.simulation.calls_stay_within.Goals as goal

pub returns-clause-calls : goal.returns-clause-calls
returns-clause-calls c =
    let laws = c.calls_end.ensures in
    let told = c.module-module.ensures in
    let m = c.verified.result.now in
    let f = told.bounded.compute.number in
    let bounds = laws.bounds m told.bounded in
    let sizes = bounds.sizes in
    let heights = bounds.heights in
    let depths = bounds.depths in
    subst CallsStayWithin c.verified.ensures (record {
      compute = told.bounded.compute;
      facts = record { compute = f; size = sizes.0 f; max_operands = heights.0 f; max_frames = depths.0 f };
      are = record {
        number = refl;
        size = (sizes.0, sizes.1, refl);
        operands = (heights.0, heights.1, refl);
        frames = (depths.0, depths.1, refl);
      };
      ends = laws.ends m told.typed told.bounded sizes.0 heights.0 depths.0 sizes.1 heights.1 depths.1;
    })

pub returns-clause-meaning : goal.returns-clause-meaning
returns-clause-meaning c =
    let told = c.module-module.ensures in
    let m = c.verified.result.now in
    let one = subst HasOneOutcome c.verified.ensures (c.calls_are_a_function.ensures.one m told.typed told.bounded) in
    let graph = c.settings.ensures.graph in
    record { graph = graph.0; is_graph = graph.1; outcomes = one.outcomes; are = one.are }
