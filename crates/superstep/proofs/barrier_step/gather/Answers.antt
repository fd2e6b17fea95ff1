use Rattle.std.proofs.Common.{refl, sym, ◌∙◌, subst}
use Rattle.std.proofs.lemmas.Iterator.Adapters.{YieldsList-from_vec}
use Rattle.std.proofs.lemmas.Iterator.Consumers.{YieldsList-end}
use Rattle.std.proofs.lemmas.List.{map-id}
use Rattle.superstep.specs.inside.Barrier.{IsGathered}
use Rattle.superstep.proofs.Gathering.{gathered_none}
use Rattle.superstep.proofs.barrier_step.gather.Goals as goal

pub loop-done-init : goal.loop-done-init
loop-done-init g c =
    gathered_none g.J.Origin.work g.J.Origin.honest _ c.in_ok-with_capacity.ensures.items c.in_ok-with_capacity-2.ensures.items
    c.aggregator_starts.ensures refl

pub loop-done-preserved : goal.loop-done-preserved
loop-done-preserved g c = c.in_ok-add.ensures c.loop-done.yielded c.loop-done.invariant

pub returns : goal.returns
returns g c =
    let gives = c.into_iter-done-iterator.ensures.into_iter_gives in
    let dones = YieldsList-from_vec c.args.dones.items gives.0 (gives.1 ∙ c.args.dones.ok.0) in
    let all = YieldsList-end dones c.loop-done.yielded c.loop-done.done-iterator c.loop-done.yielded_by _ c.next.new.self c.in-None.is c.next.ensures.steps in
    subst (λ stamps. IsGathered g.J.Origin.work g.J.Origin.honest stamps c.loop-done.gathered)
    (sym (map-id c.loop-done.yielded) ∙ all.0) c.loop-done.invariant
