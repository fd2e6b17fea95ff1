use Rattle.std.proofs.Common.{length}
use Rattle.std.specs.List.{IsDistinct}
use Rattle.inbox.specs.Merging.{are_one}
use Rattle.conformance.proofs.inboxes.are_distinct.Given as goal

abbrev pub invariant-loop-first : goal.invariant-loop-first
invariant-loop-first l = IsDistinct are_one l.rest → IsDistinct are_one l.letters

abbrev pub decreases-loop-first : goal.decreases-loop-first
decreases-loop-first l = length l.rest
