use Rattle.std.proofs.Common.{arith}
use Rattle.wat_syntax.proofs.Left.{left_all, left_further}
use Rattle.wat_syntax.proofs.lexer.scanner.line_end.Goals as goal

pub each-init : goal.each-init
each-init c = left_all c.args.text.now

pub each-preserved : goal.each-preserved
each-preserved c = left_further c.args.text.now c.each.rest.now 1 c.each.invariant (omega arith)
