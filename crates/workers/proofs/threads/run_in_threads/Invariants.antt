use Rattle.superstep.specs.Tasks.{trusts}
use Rattle.superstep.proofs.Trusting.{trusts_lasts}
use Rattle.workers.proofs.threads.run_in_threads.Given as goal

abbrev pub ghosts-run_as : goal.ghosts-run_as
ghosts-run_as g a = record {
  work = a.job.now;
  honest = trusts (g.K.Keep.honest a.keep);
  lasts = trusts_lasts (g.K.Keep.honest a.keep);
}
