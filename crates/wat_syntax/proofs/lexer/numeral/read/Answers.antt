use Rattle.std.proofs.Common.{◌≡◌, true, arith}
use Rattle.std.proofs.lemmas.Grind.{common_steps}
use Rattle.wat_syntax.specs.inside.Lexing.{begins_with_digit}
use Rattle.wat_syntax.proofs.Numerals.{numeral_begins}
use Rattle.wat_syntax.proofs.lexer.numeral.read.Goals as goal

pub returns-then-not-begins_with_digit : goal.returns-then-not-begins_with_digit
returns-then-not-begins_with_digit c = λ n e.
    let begins : begins_with_digit c.args.word.now ≡ true = numeral_begins c.args.word.now n e in
    absurd (grind (arith, common_steps))
