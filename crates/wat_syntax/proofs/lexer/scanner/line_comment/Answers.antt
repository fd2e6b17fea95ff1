use Rattle.std.proofs.Common.{arith}
use Rattle.wat_syntax.proofs.Left.{left_after, left_tail, tail_of}
use Rattle.wat_syntax.proofs.lexer.scanner.line_comment.Goals as goal

pub returns-in-59-clause-ends : goal.returns-in-59-clause-ends
returns-in-59-clause-ends c =
    left_after c.args.text.now (tail_of 1 c.args.text.now) c.line_end.result.now (left_tail c.args.text.now 1 (omega arith)) c.line_end.ensures
