use Rattle.std.proofs.Common.{◌≡◌, length, take}
use Rattle.book.specs.Saving.{IsKeptStep, KeepsFor}
use Rattle.rollback.specs.Simulation.{RanOver}
use Rattle.rollback.specs.inside.Simulating.{IsRunnerOf, sim_of}
use Rattle.rollback.proofs.simulation.run.Given as goal

abbrev pub invariant-loop-i : goal.invariant-loop-i
invariant-loop-i g l = record {
  same : length l.answers ≡ length l.steps;
  ran : RanOver (IsKeptStep g.K.Keep.honest g.K.Keep.saved g.K.Keep.may_load g.K.Keep.faults g.J.Origin.work g.J.Origin.honest) g.J.Origin.work g.J.Origin.honest (take l.i l.steps) (sim_of l.fn.book l.fn.held) l.fn.keep (take l.i l.answers) (sim_of l.book l.held) l.keep;
  runner : IsRunnerOf g.J.Origin.work l.runner;
  keep : KeepsFor g.J.Origin.work g.J.Origin.honest (g.K.Keep.honest l.keep) (g.K.Keep.saved l.keep) (g.K.Keep.may_load l.keep) l.book;
}
