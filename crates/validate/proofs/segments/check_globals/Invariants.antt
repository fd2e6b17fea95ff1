use Rattle.std.proofs.Common.{take}
use Rattle.std.specs.List.{AllByRecursion}
use Rattle.verified.specs.Modules.{GlobalTyped}
use Rattle.validate.proofs.segments.check_globals.Given as goal

abbrev pub invariant-loop-global : goal.invariant-loop-global
invariant-loop-global l = AllByRecursion (GlobalTyped l.spaces) (take l.global-index l.globals)
