use Rattle.std.proofs.Common.{◌∙◌}
use Rattle.std.proofs.lemmas.Result.{IfOk-weaker}
use Rattle.superstep.proofs.Deliveries.{all_inboxes}
use Rattle.superstep.proofs.barrier_step.delivered.Goals as goal

pub merge_own_parts-requires-clause-apart : goal.merge_own_parts-requires-clause-apart
merge_own_parts-requires-clause-apart g c κs within = c.letters_are_spread.ensures.apart c.requires.0 c.requires.1 (rw c.deref.ensures.value c.requires.2)

pub merge_own_parts-requires-clause-distinct : goal.merge_own_parts-requires-clause-distinct
merge_own_parts-requires-clause-distinct g c κs within = (rw c.deref.ensures.value at c.letters_are_spread.ensures.distinct) c.requires.0 c.requires.1 c.requires.2

pub returns-clause-inboxes : goal.returns-clause-inboxes
returns-clause-inboxes g c =
    IfOk-weaker c.merge_own_parts.result _ _ (λ merged made lefts ordered is.
    let sent = c.letters_are_spread.ensures.sent lefts ordered (rw c.deref.ensures.value is) in
    made sent.0 (rw c.deref.ensures.value at sent.1) ∙ all_inboxes c.args.ids.now lefts ordered sent.0 sent.2 is.ids)
    c.merge_own_parts.ensures.inboxes

pub returns-clause-dropped : goal.returns-clause-dropped
returns-clause-dropped g c =
    IfOk-weaker c.merge_own_parts.result _ _ (λ merged made lefts ordered is. made ∙ (rw c.deref.ensures.value at c.letters_are_spread.ensures.dropped) lefts ordered is)
    c.merge_own_parts.ensures.dropped
