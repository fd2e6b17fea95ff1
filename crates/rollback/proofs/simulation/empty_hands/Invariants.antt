use Rattle.std.proofs.Common.{◌≡◌, replicate, None}
use Rattle.rollback.specs.inside.Simulating.{stamps}
use Rattle.rollback.proofs.simulation.empty_hands.Given as goal

abbrev pub invariant-loop-worker : goal.invariant-loop-worker
invariant-loop-worker g l = stamps l.held.items ≡ replicate l.worker None
