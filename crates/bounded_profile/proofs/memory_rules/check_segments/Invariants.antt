use Rattle.std.proofs.Common.{take}
use Rattle.std.specs.List.{AllByRecursion}
use Rattle.verified.specs.Memory.{DataWithin}
use Rattle.bounded_profile.proofs.memory_rules.check_segments.Given as goal

abbrev pub invariant-loop-segment : goal.invariant-loop-segment
invariant-loop-segment l = AllByRecursion (DataWithin l.module) (take l.segment-index l.segment-items)
