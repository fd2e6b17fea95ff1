use Rattle.std.proofs.Common.{arith}
use Rattle.wat_syntax.proofs.Left.{left_all, left_further}
use Rattle.wat_syntax.proofs.lexer.scanner.comment.Goals as goal

pub each-init : goal.each-init
each-init c = left_all c.args.text.now

pub each-preserved-in-41-1 : goal.each-preserved-in-41-1
each-preserved-in-41-1 c = left_further c.args.text.now c.each.rest.now 2 c.each.invariant (omega arith)

pub each-preserved-in-59-rest-3 : goal.each-preserved-in-59-rest-3
each-preserved-in-59-rest-3 c = left_further c.args.text.now c.each.rest.now 2 c.each.invariant (omega arith)

pub returns-then-depth-eq0 : goal.returns-then-depth-eq0
returns-then-depth-eq0 c = left_further c.args.text.now c.each.rest.now 2 c.each.invariant (omega arith)
