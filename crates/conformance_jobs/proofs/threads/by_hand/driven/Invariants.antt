use Rattle.std.proofs.Common.{false}
use Rattle.conformance_jobs.proofs.threads.by_hand.driven.Given as goal

abbrev pub ghosts-driven_as : goal.ghosts-driven_as
ghosts-driven_as g a = record {
  work = a.job.now;
  honest = λ epoch. false;
  lasts = λ epoch other late never. never;
}
