use Rattle.std.proofs.Common.{◌∙◌}
use Rattle.run_command.proofs.jobs.end_run.Goals as goal

pub returns-in_ok-text-in-Ok-clause-noted : goal.returns-in_ok-text-in-Ok-clause-noted
returns-in_ok-text-in-Ok-clause-noted g c = λ watched. c.note.ensures.noted (c.watch.ensures ∙ watched)

pub returns-in-Err-clause-noted : goal.returns-in-Err-clause-noted
returns-in-Err-clause-noted g c = λ watched. c.note.ensures.noted (c.watch.ensures ∙ watched)
