use Rattle.wat_syntax.specs.declared.fault.Failure.TheVariants as failure
use Rattle.wat_syntax.specs.declared.fault.FaultKind.TheVariants as wrong
use Rattle.wat_syntax.proofs.Scanner.{quoted_some, quoted_none}
use Rattle.wat_syntax.proofs.lexer.scanner.quoted.Goals as goal

pub returns-in-Some-clause-again : goal.returns-in-Some-clause-again
returns-in-Some-clause-again c = λ source all ends.
    quoted_some source c.args.text.now c.args.size c.in-Some.rest all ends c.in-Some.ensures.again

pub returns-in-None-clause-again : goal.returns-in-None-clause-again
returns-in-None-clause-again c = λ source all ends. quoted_none source c.args.text.now (failure.Fault wrong.Lex c.args.left) c.in-None.ensures.again
