use Rattle.std.proofs.Common.{◌≡◌, ◌+◌, ◌++◌, ap, arith, drop, length, subst, sym, take, ◌∙◌}
use Rattle.std.proofs.lemmas.List.{take-append-le, take_all}
use Rattle.inbox.specs.inside.Slips.{AreInboxesOf}
use Rattle.inbox.proofs.Messages.{made_more}
use Rattle.inbox.proofs.blocks.inboxes_of.Goals as goal

pub loop-index-preserved : goal.loop-index-preserved
loop-index-preserved c =
    let slips = c.args.slips.now in
    let index = c.loop-index.index in
    let inboxes = c.loop-index.inboxes in
    let new = c.put.new.inboxes in
    let long : length new ≡ length inboxes.items = c.in_ok-put.ensures.one_each ∙ ap length c.deref_mut.ensures.value in
    let whole : take inboxes.len (new ++ drop (length new) inboxes.items) ≡ new = take-append-le inboxes.len new _ (omega (arith, long, inboxes.ok)) ∙ take_all inboxes.len new (omega (arith, long, inboxes.ok)) in
    subst (AreInboxesOf (take (index + 1) slips) c.args.count) (sym whole)
    (made_more slips index c.at.result c.args.count inboxes.items new (omega (arith, c.loop-index-test.true, c.len-index-end.ensures)) c.at.ensures c.loop-index.invariant long
    (rw c.deref_mut.ensures.value at c.in_ok-put.ensures.put))
