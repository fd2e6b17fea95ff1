use Rattle.std.proofs.lemmas.Bool.{false≢true}
use Rattle.run_command.proofs.running.run_in_folder.Goals as goal

pub resume-requires-clause-left : goal.resume-requires-clause-left
resume-requires-clause-left g c _ _ = λ sure. absurd (false≢true sure)
