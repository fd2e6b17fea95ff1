use Rattle.std.proofs.Common.{false}
use Rattle.conformance_jobs.proofs.threads.by_hand.led.Given as goal

abbrev pub ghosts-led_as : goal.ghosts-led_as
ghosts-led_as g a = record {
  work = a.job.now;
  honest = λ epoch. false;
  lasts = λ epoch other late never. never;
}
