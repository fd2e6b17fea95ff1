use Rattle.std.proofs.Common.{◌≡◌, ◌-◌}
use Rattle.wat_syntax.specs.inside.ReadingCode.{exponent, exponent_from}
use Rattle.wat_syntax.proofs.parser.plain.exponent.Given as goal

abbrev pub invariant-loop-e : goal.invariant-loop-e
invariant-loop-e l = exponent_from l.e (32 - l.e) l.n ≡ exponent l.n
