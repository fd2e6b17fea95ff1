use Rattle.std.proofs.Common.{◌≡◌, sum_by, take}
use Rattle.inbox.proofs.all_parts.delivered_count.Given as goal

abbrev pub invariant-loop-part : goal.invariant-loop-part
invariant-loop-part l = l.count ≡ sum_by (λ part. part.count) (take l.part-index l.parts)
