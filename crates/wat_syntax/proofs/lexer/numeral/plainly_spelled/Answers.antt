use Rattle.std.proofs.Common.{◌≡◌, Some, ap, ◌∙◌}
use Rattle.std.specs.Result.{result_ok}
use Rattle.wat_syntax.specs.inside.Lexing.{numeral_of}
use Rattle.wat_syntax.proofs.Numerals.{numeral_ok, numeral_utf8}
use Rattle.wat_syntax.proofs.lexer.numeral.plainly_spelled.Goals as goal

pub returns-in-Ok : goal.returns-in-Ok
returns-in-Ok c = λ n e.
    let same : numeral_of c.in-Ok.text.now ≡ Some n = ap numeral_of c.in-Ok.ensures.cases.0 ∙ e in
    c.ok.ensures.value ∙ ap result_ok (numeral_ok c.in-Ok.text.now n c.parse.result c.parse.ensures.value.0 same)

pub returns-in-Err : goal.returns-in-Err
returns-in-Err c = λ n e. absurd (c.in-Err.ensures.cases.0 (numeral_utf8 c.args.word.now n e))
