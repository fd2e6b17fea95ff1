use Rattle.superstep.specs.Tasks.{trusts}
use Rattle.superstep.proofs.Trusting.{trusts_lasts}
use Rattle.rollback.proofs.simulation.simulate.Given as goal

abbrev pub ghosts-simulate_as : goal.ghosts-simulate_as
ghosts-simulate_as g a = record {
  work = a.job.now;
  honest = trusts (g.K.Keep.honest a.keep.now);
  lasts = trusts_lasts (g.K.Keep.honest a.keep.now);
}
