use Rattle.std.proofs.Common.{arith, ap, map, vec_items, ◌∙◌}
use Rattle.std.proofs.lemmas.Result.{IfOk-weaker}
use Rattle.inbox.specs.Merging.{all_of}
use Rattle.inbox.proofs.InShares.{all_made, delivered_or_lost}
use Rattle.inbox.proofs.all_parts.merge_parts.Goals as goal

pub with_dropped-requires : goal.with_dropped-requires
with_dropped-requires g c =
    let each = c.in_ok-delivered.ensures (all_of c.args.lists.now) c.args.ids.now c.in_ok-filed.ensures in
    let all = delivered_or_lost (all_of c.args.lists.now) c.args.ids.now c.in_ok-delivered.delivered.items c.requires.distinct c.requires.apart each in
    omega (arith, all, c.count.ensures)

pub returns-clause-inboxes : goal.returns-clause-inboxes
returns-clause-inboxes g c =
    let letters = all_of c.args.lists.now in
    let each = c.in_ok-delivered.ensures letters c.args.ids.now c.in_ok-filed.ensures in
    IfOk-weaker c.with_dropped.result _ _ (λ merged made ordered by.
    ap (map vec_items) made ∙ all_made letters ordered by c.args.ids.now c.in_ok-delivered.delivered.items each)
    c.with_dropped.ensures.inboxes

pub returns-clause-dropped : goal.returns-clause-dropped
returns-clause-dropped g c =
    let each = c.in_ok-delivered.ensures (all_of c.args.lists.now) c.args.ids.now c.in_ok-filed.ensures in
    let all = delivered_or_lost (all_of c.args.lists.now) c.args.ids.now c.in_ok-delivered.delivered.items c.requires.distinct c.requires.apart each in
    IfOk-weaker c.with_dropped.result _ _ (λ merged lost. omega (arith, lost, all, c.count.ensures)) c.with_dropped.ensures.dropped
