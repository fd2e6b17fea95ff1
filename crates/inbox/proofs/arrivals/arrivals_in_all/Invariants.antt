use Rattle.std.proofs.Common.{◌≡◌, map, take, vec_items, length, vec_capacity, vec_len}
use Rattle.inbox.specs.Arrivals.{arrivals_from}
use Rattle.inbox.specs.Merging.{inboxes_of}
use Rattle.inbox.proofs.arrivals.arrivals_in_all.Given as goal

abbrev pub invariant-loop-part : goal.invariant-loop-part
invariant-loop-part l = record {
  made : map vec_items l.parts.items ≡ map (λ part. arrivals_from 0 (inboxes_of l.letters part.items)) (take l.part-index l.ids);
  len : vec_len l.parts ≡ l.part-index;
  room : vec_capacity l.parts ≡ length l.ids;
}
