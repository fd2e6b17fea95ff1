use Rattle.std.proofs.Common.{ap, sym, ◌∙◌}
use Rattle.std.proofs.lemmas.Iterator.Adapters.{YieldsList-from_vec}
use Rattle.std.proofs.lemmas.Iterator.Consumers.{YieldsList-end}
use Rattle.std.proofs.lemmas.List.{map-id}
use Rattle.std.specs.List.{fold}
use Rattle.job_state.specs.inside.Handed.{handed}
use Rattle.job_state.proofs.Handing.{all_handed, sorted_due}
use Rattle.job_state.proofs.part_states.PartStates.handed.Goals as goal

pub invariant_of-result : goal.invariant_of-result
invariant_of-result c =
    sorted_due c.loop-arrival.due.items c.sort_unstable.new.self.items c.loop-arrival.vertices.items c.loop-arrival.invariant.due
    c.sort_unstable.ensures.permutation c.sort_unstable.ensures.sorted

pub returns : goal.returns
returns c = λ inboxes are long none.
    let gives = c.into_iter-arrival-iterator.ensures.into_iter_gives in
    let given = YieldsList-from_vec c.args.arrivals.items gives.0 (gives.1 ∙ c.args.arrivals.ok.0) in
    let all = YieldsList-end given c.loop-arrival.yielded c.loop-arrival.arrival-iterator c.loop-arrival.yielded_by _ c.next.new.self c.in-None.is c.next.ensures.steps in
    c.loop-arrival.invariant.handed
    ∙ ap (λ vertices. fold handed vertices c.loop-arrival.yielded) c.self.view_is
    ∙ ap (fold handed c.args.self) (sym (map-id c.loop-arrival.yielded) ∙ all.0)
    ∙ all_handed c.args.self c.args.arrivals.items inboxes are long none
