use Rattle.std.proofs.Common.{arith, List, ◌++◌, sym, ap, ◌∙◌}
use Rattle.std.proofs.lemmas.List.{take_all}
use Rattle.std.specs.List.{flat_map}
use Rattle.inbox.specs.declared.letters.Letter.{Letter}
use Rattle.inbox.specs.Merging.{sent_in}
use Rattle.inbox.specs.inside.Streams.{left_in}
use Rattle.inbox.specs.declared.streams.Rest.TheVariants.{OfOutbox}
use Rattle.inbox.proofs.Streaming.{one_more, one_pushed}
use Rattle.inbox.proofs.streams.rests_of_outboxes.Goals as goal

pub loop-outbox-preserved : goal.loop-outbox-preserved
loop-outbox-preserved c = record {
  left =
      ap (flat_map left_in) c.push_reserved.ensures.items
      ∙ one_pushed left_in c.loop-outbox.rests.items (OfOutbox c.unread.result)
      ∙ (λ i. c.loop-outbox.invariant.left i ++ c.unread.ensures i)
      ∙ sym (one_more (λ (letters : List Letter). letters) c.args.outboxes.now c.loop-outbox.outbox-index c.outbox-item.result c.loop-outbox-test.true c.outbox-item.is);
  len = omega (arith, c.push_reserved.ensures.len, c.loop-outbox.invariant.len);
  room = c.push_reserved.ensures.capacity ∙ c.loop-outbox.invariant.room;
}

pub push_reserved-requires : goal.push_reserved-requires
push_reserved-requires c = omega (arith, c.loop-outbox.invariant.len, c.loop-outbox.invariant.room, c.loop-outbox-test.true)

pub returns : goal.returns
returns c = c.loop-outbox.invariant.left ∙ ap sent_in (take_all c.loop-outbox.outbox-index c.args.outboxes.now c.loop-outbox-test.false)
