use Rattle.std.proofs.Common.{sym, ◌∙◌}
use Rattle.plain_run.proofs.machine.OneMachine.is_over.Goals as goal

pub returns-else-is_quiet : goal.returns-else-is_quiet
returns-else-is_quiet c = rw (sym c.is_quiet.ensures ∙ c.if-is_quiet.false)
