use Rattle.std.proofs.Common.{false}
use Rattle.conformance_jobs.proofs.simulations.doubles.doubled.Given as goal

abbrev pub ghosts-doubled_as : goal.ghosts-doubled_as
ghosts-doubled_as g a = record {
  work = a.job.now;
  honest = λ epoch. false;
  lasts = λ epoch other late never. never;
}
