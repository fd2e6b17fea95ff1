use Rattle.std.proofs.Common.{◌≡◌, ◌++◌, drop, replicate}
use Rattle.verified.specs.declared.operand.Operand.TheVariants.{Unknown}
use Rattle.profile_rules.specs.inside.Tracking.{operands_of}
use Rattle.profile_rules.proofs.constants.operands.Operands.pass.Given as goal

abbrev pub invariant-loop-taken : goal.invariant-loop-taken
invariant-loop-taken l = operands_of l.self ≡ drop l._taken (operands_of l.initial.self)

abbrev pub invariant-loop-given : goal.invariant-loop-given
invariant-loop-given l = operands_of l.self ≡ replicate l._given Unknown ++ operands_of l.initial.self
