use Rattle.std.proofs.Common.{false}
use Rattle.conformance_jobs.proofs.plain_jobs.by_hand.tell_first_superstep.Given as goal

abbrev pub ghosts-state_of_copies : goal.ghosts-state_of_copies
ghosts-state_of_copies g a = record {
  work = a.job.now;
  honest = λ epoch. false;
  lasts = λ epoch other late never. never;
}
