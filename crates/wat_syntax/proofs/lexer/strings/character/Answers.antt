use Rattle.std.proofs.Common.{arith}
use Rattle.wat_syntax.proofs.Left.{left_all, left_further}
use Rattle.wat_syntax.proofs.lexer.strings.character.Goals as goal

pub each-init : goal.each-init
each-init c = left_all c.args.text.now

pub each-preserved-then-after_digit : goal.each-preserved-then-after_digit
each-preserved-then-after_digit c = left_further c.args.text.now c.each.rest.now 1 c.each.invariant (omega arith)

pub each-preserved : goal.each-preserved
each-preserved c = left_further c.args.text.now c.each.rest.now 1 c.each.invariant (omega arith)

pub returns-then-b-eq125-clause-ends : goal.returns-then-b-eq125-clause-ends
returns-then-b-eq125-clause-ends c = left_further c.args.text.now c.each.rest.now 1 c.each.invariant (omega arith)
