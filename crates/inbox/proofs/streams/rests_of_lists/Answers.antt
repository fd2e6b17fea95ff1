use Rattle.std.proofs.Common.{arith, ◌++◌, sym, ap, ◌∙◌, vec_items}
use Rattle.std.proofs.lemmas.List.{take_all}
use Rattle.std.specs.List.{flat_map}
use Rattle.inbox.specs.Merging.{all_of}
use Rattle.inbox.specs.inside.Streams.{left_in}
use Rattle.inbox.specs.declared.streams.Rest.TheVariants.{OfList}
use Rattle.inbox.proofs.Streaming.{one_more, one_pushed}
use Rattle.inbox.proofs.streams.rests_of_lists.Goals as goal

pub loop-list-preserved : goal.loop-list-preserved
loop-list-preserved c = record {
  left =
      ap (flat_map left_in) c.push_reserved.ensures.items
      ∙ one_pushed left_in c.loop-list.rests.items (OfList c.as_slice.result)
      ∙ (λ i. c.loop-list.invariant.left i ++ c.as_slice.ensures.value i)
      ∙ sym (one_more vec_items c.args.lists.now c.loop-list.list-index c.list-item.result c.loop-list-test.true c.list-item.is);
  len = omega (arith, c.push_reserved.ensures.len, c.loop-list.invariant.len);
  room = c.push_reserved.ensures.capacity ∙ c.loop-list.invariant.room;
}

pub push_reserved-requires : goal.push_reserved-requires
push_reserved-requires c = omega (arith, c.loop-list.invariant.len, c.loop-list.invariant.room, c.loop-list-test.true)

pub returns : goal.returns
returns c = c.loop-list.invariant.left ∙ ap all_of (take_all c.loop-list.list-index c.args.lists.now c.loop-list-test.false)
