use Rattle.std.proofs.Common.{◌≡◌, drop}
use Rattle.profile_rules.specs.inside.Tracking.{operands_of, take_each}
use Rattle.profile_rules.proofs.constants.operands.Operands.take_each.Given as goal

abbrev pub invariant-loop-demand : goal.invariant-loop-demand
invariant-loop-demand l =
    take_each l.bytes l.demands (operands_of l.initial.self) ≡ take_each l.bytes (drop l.demand-index l.demands) (operands_of l.self)
