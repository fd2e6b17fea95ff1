use Rattle.std.proofs.Common.{take}
use Rattle.std.specs.List.{AllByRecursion}
use Rattle.profile_rules.specs.inside.Tracking.{Passes}
use Rattle.profile_rules.proofs.constants.bodies.check_bodies.Given as goal

abbrev pub invariant-loop-index : goal.invariant-loop-index
invariant-loop-index l = AllByRecursion (Passes l.setting) (take l.index l.functions)
