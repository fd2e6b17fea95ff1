use Rattle.std.proofs.Common.{◌≡◌, ◌+◌, length}
use Rattle.bounded_profile.specs.inside.Levels.{AreToldBelow}
use Rattle.bounded_profile.proofs.heights.add_heights.Given as goal

abbrev pub invariant-loop-index : goal.invariant-loop-index
invariant-loop-index l = record {
  told : AreToldBelow l.valid l.ranks l.heights l.rank (l.imported + l.index);
  long : length l.heights ≡ length l.arities;
}
