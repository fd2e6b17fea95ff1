use Rattle.line_text.proofs.Numbers.{IsRead}
use Rattle.line_text.proofs.number.numeral.Given as goal

abbrev pub invariant-loop-digit : goal.invariant-loop-digit
invariant-loop-digit l = IsRead l.digits l.digit-index l.number
