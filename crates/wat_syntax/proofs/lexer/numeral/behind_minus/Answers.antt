use Rattle.wat_syntax.proofs.Words.{negated_tells, not_negated_tells}
use Rattle.wat_syntax.proofs.lexer.numeral.behind_minus.Goals as goal

pub returns-in-Some-clause-tells : goal.returns-in-Some-clause-tells
returns-in-Some-clause-tells c = negated_tells c.args.n c.in-Some.z c.in-Some.ensures

pub returns-in-None-clause-tells : goal.returns-in-None-clause-tells
returns-in-None-clause-tells c = not_negated_tells c.args.n c.in-None.ensures
