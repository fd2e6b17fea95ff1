use Rattle.std.proofs.Common.{arith}
use Rattle.wat_syntax.proofs.Left.{left_tail, left_from}
use Rattle.wat_syntax.proofs.lexer.strings.step.Goals as goal

pub returns-in-34-clause-ends : goal.returns-in-34-clause-ends
returns-in-34-clause-ends c = left_tail c.args.text.now 1 (omega arith)

pub returns-in-92-clause-ends : goal.returns-in-92-clause-ends
returns-in-92-clause-ends c = left_from c.args.text.now 1 c.escape.result (omega arith) c.escape.ensures.ends

pub returns-else-is_control-clause-ends : goal.returns-else-is_control-clause-ends
returns-else-is_control-clause-ends c = left_tail c.args.text.now 1 (omega arith)
