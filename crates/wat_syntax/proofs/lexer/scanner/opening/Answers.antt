use Rattle.std.proofs.Common.{arith}
use Rattle.wat_syntax.proofs.Left.{left_after, left_all, left_tail, tail_of}
use Rattle.wat_syntax.proofs.lexer.scanner.opening.Goals as goal

pub returns-in-Some-clause-ends : goal.returns-in-Some-clause-ends
returns-in-Some-clause-ends c =
    left_after c.args.text.now (tail_of 1 c.args.text.now) c.in-Some.rest.now (left_tail c.args.text.now 1 (omega arith)) c.in-Some.ensures

pub returns-in_default-clause-ends : goal.returns-in_default-clause-ends
returns-in_default-clause-ends c = left_all c.args.text.now
