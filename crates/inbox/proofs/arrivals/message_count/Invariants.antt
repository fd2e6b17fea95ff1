use Rattle.std.proofs.Common.{◌≡◌, length, sum_by, take}
use Rattle.inbox.proofs.arrivals.message_count.Given as goal

abbrev pub invariant-loop-part : goal.invariant-loop-part
invariant-loop-part l = l.count ≡ sum_by (λ part. sum_by (λ arrival. length arrival.inbox) part.items) (take l.part-index l.parts)
