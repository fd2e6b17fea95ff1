use Rattle.plain_commands.proofs.compute_call.answer_to.Goals as goal

pub returns-clause-answer : goal.returns-clause-answer
returns-clause-answer c = (c.in-Ok.outcome, c.in-Ok.ensures, c.in_ok-lines.ensures)
