use Rattle.std.proofs.Common.{arith}
use Rattle.inbox.proofs.all_parts.with_dropped.Goals as goal

pub returns-clause-dropped : goal.returns-clause-dropped
returns-clause-dropped c = omega (arith, rw c.deref.ensures.value at c.delivered_count.ensures, c.requires)
