use Rattle.std.proofs.Common.{take}
use Rattle.std.specs.List.{AllByRecursion}
use Rattle.verified.specs.Modules.{DataTyped}
use Rattle.validate.proofs.segments.check_data.Given as goal

abbrev pub invariant-loop-segment : goal.invariant-loop-segment
invariant-loop-segment l = AllByRecursion (DataTyped l.spaces) (take l.segment-index l.segments)
