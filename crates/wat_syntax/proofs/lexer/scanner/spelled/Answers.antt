use Rattle.std.proofs.Common.{◌≡◌, length, arith}
use Rattle.std.proofs.lemmas.Grind.{common_steps}
use Rattle.std.proofs.lemmas.Result.{err_from_is_err_and}
use Rattle.wat_syntax.specs.declared.fault.Failure.TheVariants as failure
use Rattle.wat_syntax.specs.declared.fault.FaultKind.TheVariants as wrong
use Rattle.wat_syntax.proofs.Scanner.{word_none, word_read, word_fails}
use Rattle.wat_syntax.proofs.lexer.scanner.spelled.Goals as goal

pub returns-then-is_empty-clause-again : goal.returns-then-is_empty-clause-again
returns-then-is_empty-clause-again c = λ source.
    let none : length c.word.result.0.now ≡ 0 = grind (arith, common_steps) in
    word_none source c.args.text.now c.word.result.0.now (failure.Fault wrong.Lex (length c.args.text.now)) c.word.ensures.first none

pub returns-in_err-token-clause-again : goal.returns-in_err-token-clause-again
returns-in_err-token-clause-again c = λ source.
    let p = err_from_is_err_and c.from_residual.result c.from_residual.ensures.1 in
    rw (p.1, p.2) (word_fails source c.args.text.now c.word.result.0.now c.in_err-token.field-0.0 c.word.ensures.first (c.in_err-token.ensures.again source))

pub returns-clause-again : goal.returns-clause-again
returns-clause-again c = λ source.
    word_read source c.args.text.now c.word.result.0.now c.in_ok-token.token c.word.result.1 c.word.ensures.first c.word.ensures.rest (c.in_ok-token.ensures.again source)
