use Rattle.std.proofs.Common.{None}
use Rattle.rollback.proofs.Simulated
use Rattle.rollback.proofs.simulation.let_go.Goals as goal

pub returns-then-worker-held-clause-after : goal.returns-then-worker-held-clause-after
returns-then-worker-held-clause-after g c = rw c.replace.ensures.after (Simulated.stamps_set c.args.held.now c.args.worker None)
