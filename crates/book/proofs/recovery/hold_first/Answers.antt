use Rattle.std.proofs.Common.{sym, subst}
use Rattle.book.specs.Saving.{IsFullStateAt}
use Rattle.book.proofs.Opening.{full_first}
use Rattle.book.proofs.recovery.hold_first.Goals as goal

pub hold-requires-clause-at : goal.hold-requires-clause-at
hold-requires-clause-at g c = λ sure.
    subst (λ n. IsFullStateAt g.J.Origin.work n c.in-Ok.state) (sym c.in-Ok.ensures.superstep) (full_first g.J.Origin.work c.args.job.now c.in-Ok.state (sym c.requires.job) c.in-Ok.ensures.first c.in-Ok.ensures.since)
