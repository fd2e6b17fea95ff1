use Rattle.std.proofs.Common.{arith}
use Rattle.wat_syntax.proofs.Left.{left_from}
use Rattle.wat_syntax.proofs.lexer.strings.escape.Goals as goal

pub returns-in-117-clause-ends : goal.returns-in-117-clause-ends
returns-in-117-clause-ends c = left_from c.args.text.now 2 c.character.result (omega arith) c.character.ensures.ends
