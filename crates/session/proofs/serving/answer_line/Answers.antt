use Rattle.std.proofs.Common.{rules}
use Rattle.session.specs.inside.SeenLines.{reply_text}
use Rattle.session.proofs.serving.answer_line.Goals as goal

pub returns-in_err-tell-clause-answered : goal.returns-in_err-tell-clause-answered
returns-in_err-tell-clause-answered g c = record {
  reply = reply_text c.answer-reply.result;
  answers = rw c.command_of-command.ensures at c.answer-reply.ensures.answered;
  written = search rules;
}

pub returns-clause-answered : goal.returns-clause-answered
returns-clause-answered g c = record {
  reply = reply_text c.answer-reply.result;
  answers = rw c.command_of-command.ensures at c.answer-reply.ensures.answered;
  written = search rules;
}
