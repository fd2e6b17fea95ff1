use Rattle.std.proofs.Common.{◌∙◌, ap}
use Rattle.session.specs.Commands.{asked_by}
use Rattle.session.specs.Words.{words_of}
use Rattle.session.proofs.Asking.{asked_other, asked_read}
use Rattle.session.proofs.command.command_of.Goals as goal

pub returns-in-Ok : goal.returns-in-Ok
returns-in-Ok c =
    c.command_by.ensures
    ∙ ap (λ text. asked_by (words_of text)) c.in-Ok.ensures.cases.0
    ∙ asked_read c.args.line.now c.if-line-gt-LONGEST_LINE.false c.in-Ok.ensures.cases.1

pub returns-in-Err : goal.returns-in-Err
returns-in-Err c = asked_other c.args.line.now c.if-line-gt-LONGEST_LINE.false c.in-Err.ensures.cases.0
