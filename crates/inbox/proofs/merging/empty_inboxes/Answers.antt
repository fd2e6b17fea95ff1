use Rattle.std.proofs.Common.{[], ◌∷◌, ◌++◌, ◌∙◌, ◌<◌, arith, rules}
use Rattle.std.proofs.lemmas.List.{replicate_more}
use Rattle.inbox.proofs.merging.empty_inboxes.Goals as goal

pub loop-preserved : goal.loop-preserved
loop-preserved c = record {
  empty = c.push_reserved.ensures.items ∙ (λ i. c.loop.invariant.empty i ++ c.empty.ensures i ∷ []) ∙ replicate_more c.loop.counter [];
  len = omega (arith, c.push_reserved.ensures.len, c.loop.invariant.len);
  room = c.push_reserved.ensures.capacity ∙ c.loop.invariant.room;
}

pub push_reserved-requires : goal.push_reserved-requires
push_reserved-requires c =
    let below : c.loop.counter < c.args.count = search rules in
    omega (arith, below, c.loop.invariant.len, c.loop.invariant.room)
