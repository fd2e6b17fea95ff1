use Rattle.std.proofs.Common.{◌≡◌}
use Rattle.book.specs.Saving.{KeepsFor}
use Rattle.conformance_jobs.proofs.simulations.doubles.go_over.Given as goal

abbrev pub invariant-loop-step : goal.invariant-loop-step
invariant-loop-step g l = record {
  job : g.J.Origin.work ≡ l.hand.job.now;
  fits : l.hand.scratch ≡ l.hand.job.now.«module»;
  keep : KeepsFor g.J.Origin.work g.J.Origin.honest (g.K.Keep.honest l.keep) (g.K.Keep.saved l.keep) (g.K.Keep.may_load l.keep) l.book;
}
