use Rattle.std.proofs.Common.{◌≡◌, length, take, vec_capacity, vec_len}
use Rattle.std.specs.List.{flat_map}
use Rattle.inbox.specs.Merging.{sent_in}
use Rattle.inbox.specs.inside.Streams.{left_in}
use Rattle.inbox.proofs.streams.rests_of_outboxes.Given as goal

abbrev pub invariant-loop-outbox : goal.invariant-loop-outbox
invariant-loop-outbox l = record {
  left : flat_map left_in l.rests.items ≡ sent_in (take l.outbox-index l.outboxes);
  len : vec_len l.rests ≡ l.outbox-index;
  room : vec_capacity l.rests ≡ length l.outboxes;
}
