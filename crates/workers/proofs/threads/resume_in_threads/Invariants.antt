use Rattle.workers.proofs.threads.resume_in_threads.Given as goal

abbrev pub ghosts-resume_as : goal.ghosts-resume_as
ghosts-resume_as g a = record {
  work = a.job.now;
  honest = λ epoch. g.K.Keep.honest a.keep;
  lasts = λ epoch other late sure. sure;
}
