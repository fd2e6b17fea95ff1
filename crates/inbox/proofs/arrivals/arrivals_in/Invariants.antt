use Rattle.std.proofs.Common.{length}
use Rattle.inbox.specs.inside.Runs.{AreLeft}
use Rattle.inbox.proofs.arrivals.arrivals_in.Given as goal

abbrev pub invariant-loop-rest : goal.invariant-loop-rest
invariant-loop-rest l = AreLeft l.letters l.ids l.rest l.arrivals.items

abbrev pub decreases-loop-rest : goal.decreases-loop-rest
decreases-loop-rest l = length l.rest
