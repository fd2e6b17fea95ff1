use Rattle.std.proofs.Common.{arith, ap, map, vec_items, ◌∙◌}
use Rattle.std.proofs.lemmas.Result.{IfOk-weaker}
use Rattle.inbox.specs.Merging.{sent_in}
use Rattle.inbox.proofs.InShares.{all_made, delivered_or_lost}
use Rattle.inbox.proofs.all_parts.merge_own_parts.Goals as goal

pub with_dropped-requires : goal.with_dropped-requires
with_dropped-requires g c =
    let each = c.in_ok-delivered.ensures (sent_in c.args.outboxes.items) c.args.ids.now (rw c.deref.ensures.value at c.in_ok-filed.ensures) in
    let all = delivered_or_lost (sent_in c.args.outboxes.items) c.args.ids.now c.in_ok-delivered.delivered.items c.requires.distinct c.requires.apart each in
    omega (arith, all, (rw c.deref.ensures.value at c.count-count.ensures))

pub returns-clause-inboxes : goal.returns-clause-inboxes
returns-clause-inboxes g c =
    let letters = sent_in c.args.outboxes.items in
    let each = c.in_ok-delivered.ensures letters c.args.ids.now (rw c.deref.ensures.value at c.in_ok-filed.ensures) in
    IfOk-weaker c.with_dropped.result _ _ (λ merged made ordered by.
    ap (map vec_items) made ∙ all_made letters ordered by c.args.ids.now c.in_ok-delivered.delivered.items each)
    c.with_dropped.ensures.inboxes

pub returns-clause-dropped : goal.returns-clause-dropped
returns-clause-dropped g c =
    let each = c.in_ok-delivered.ensures (sent_in c.args.outboxes.items) c.args.ids.now (rw c.deref.ensures.value at c.in_ok-filed.ensures) in
    let all = delivered_or_lost (sent_in c.args.outboxes.items) c.args.ids.now c.in_ok-delivered.delivered.items c.requires.distinct c.requires.apart each in
    IfOk-weaker c.with_dropped.result _ _ (λ merged lost. omega (arith, lost, all, (rw c.deref.ensures.value at c.count-count.ensures))) c.with_dropped.ensures.dropped
