use Rattle.wat_syntax.proofs.Exponents.{exponent_starts, exponent_found, exponent_goes_on, exponent_missing, shifted}
use Rattle.wat_syntax.proofs.parser.plain.exponent.Goals as goal

pub loop-e-init : goal.loop-e-init
loop-e-init c = exponent_starts c.args.n

pub returns-then-e-n : goal.returns-then-e-n
returns-then-e-n c = exponent_found c.loop-e.e c.args.n _ c.loop-e-test.true (shifted c.loop-e.e c.loop-e-test.true) c.if-e-n.true c.loop-e.invariant

pub loop-e-preserved : goal.loop-e-preserved
loop-e-preserved c = exponent_goes_on c.loop-e.e c.args.n _ c.loop-e-test.true (shifted c.loop-e.e c.loop-e-test.true) c.if-e-n.false c.loop-e.invariant

pub returns : goal.returns
returns c = exponent_missing c.loop-e.e c.args.n c.loop-e-test.false c.loop-e.invariant
