use Rattle.std.proofs.Common.{List, ap, map, length, sym, subst, ◌∙◌}
use Rattle.std.specs.List.{AllByRecursion}
use Rattle.job_state.specs.declared.state.VertexState.{VertexState}
use Rattle.superstep.specs.Superstep.{messages_to}
use Rattle.superstep.specs.Tasks.{outcomes_in}
use Rattle.superstep.specs.inside.Barrier.{all_filled, left_ids}
use Rattle.job_state.specs.inside.Handed.{HasNoInbox}
use Rattle.superstep.proofs.Deliveries.{no_inboxes}
use Rattle.superstep.proofs.NextState.{along}
use Rattle.superstep.proofs.barrier_step.handed_out.Goals as goal

pub few_delivered-requires-clause-spread : goal.few_delivered-requires-clause-spread
few_delivered-requires-clause-spread g c = let spread = c.requires.spread in (spread.0, spread.1, rw c.deref-then-are_few.ensures.value spread.2)

pub delivered-requires-after_bounds : goal.delivered-requires-after_bounds
delivered-requires-after_bounds g c κs within = let spread = c.requires.spread in (spread.0, spread.1, spread.2)

pub returns-then-are_few-clause-parts : goal.returns-then-are_few-clause-parts
returns-then-are_few-clause-parts g c = λ lefts ordered is own.
    let inboxes = map (λ left. map (messages_to (outcomes_in ordered)) (left_ids left)) lefts in
    c.in_ok-parts.ensures inboxes (c.in_ok-arrivals.ensures.arrivals lefts ordered (rw c.deref-then-are_few.ensures.value is))
    (ap (map length) own ∙ along (messages_to (outcomes_in ordered)) lefts)
    (subst (λ (parts : List (List VertexState)). AllByRecursion (AllByRecursion HasNoInbox) parts) (sym own) (no_inboxes lefts))

pub returns-then-are_few-clause-dropped : goal.returns-then-are_few-clause-dropped
returns-then-are_few-clause-dropped g c = λ lefts ordered is. c.in_ok-arrivals.ensures.dropped lefts ordered (rw c.deref-then-are_few.ensures.value is)

pub returns-clause-parts : goal.returns-clause-parts
returns-clause-parts g c = λ lefts ordered is own.
    let found = c.in_ok-inboxes.ensures.inboxes lefts ordered is in
    c.in_ok-parts-2.ensures (ap (map length) own ∙ along (messages_to (outcomes_in ordered)) lefts ∙ sym (ap (map length) found))
    ∙ ap (all_filled c.args.vertices.items) found
