use Rattle.std.proofs.Common.{◌≡◌, drop}
use Rattle.profile_rules.specs.inside.Tracking.{operands_of, forget_each}
use Rattle.profile_rules.proofs.constants.operands.Operands.forget_each.Given as goal

abbrev pub invariant-loop-taken : goal.invariant-loop-taken
invariant-loop-taken l =
    forget_each l.types (operands_of l.initial.self) ≡ forget_each (drop l.taken-index l.types) (operands_of l.self)
