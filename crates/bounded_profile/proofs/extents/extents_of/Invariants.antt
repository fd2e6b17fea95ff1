use Rattle.std.proofs.Common.{◌≤◌}
use Rattle.bounded_profile.specs.inside.Footprint.{IsUpTo}
use Rattle.bounded_profile.proofs.ReachedExtents.{IsCounted}
use Rattle.bounded_profile.proofs.extents.extents_of.Given as goal

abbrev pub invariant-loop-byte : goal.invariant-loop-byte
invariant-loop-byte l = record {
  up_to : IsUpTo l.extents.items l.from l.below;
  behind : l.from ≤ l.byte;
  few : l.below ≤ l.from;
  counted : IsCounted l.marks l.extents.items l.from l.byte;
}
