use Rattle.std.proofs.Common.{◌≡◌, [], replicate, vec_capacity, vec_len}
use Rattle.inbox.proofs.merging.empty_inboxes.Given as goal

abbrev pub invariant-loop : goal.invariant-loop
invariant-loop l = record {
  empty : l.inboxes.items ≡ replicate l.counter [];
  len : vec_len l.inboxes ≡ l.counter;
  room : vec_capacity l.inboxes ≡ l.count;
}
