use Rattle.std.proofs.Common.{◌<◌, ◌∙◌, arith, rules}
use Rattle.graph.proofs.Splitting.{empty_more}
use Rattle.graph.proofs.partition.empty_parts.Goals as goal

pub loop-part-preserved : goal.loop-part-preserved
loop-part-preserved g c = record {
  empty = rw c.push_reserved.ensures.items (empty_more g.T.Identified.id c.args.count c.loop-part.part c.loop-part.parts.items _ c.loop-part.invariant.empty c.in_ok-with_capacity.ensures.items);
  len = omega (arith, c.push_reserved.ensures.len, c.loop-part.invariant.len);
  room = c.push_reserved.ensures.capacity ∙ c.loop-part.invariant.room;
}

pub push_reserved-requires : goal.push_reserved-requires
push_reserved-requires g c =
    let below : c.loop-part.part < c.args.count = search rules in
    omega (arith, below, c.loop-part.invariant.len, c.loop-part.invariant.room)
