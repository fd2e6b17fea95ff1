use Rattle.std.proofs.Common.{◌≡◌, length}
use Rattle.bounded_profile.specs.inside.Levels.{AreTold}
use Rattle.bounded_profile.proofs.heights.operand_height.Given as goal

abbrev pub invariant-loop-rank : goal.invariant-loop-rank
invariant-loop-rank l = record {
  told : AreTold l.valid l.ranks l.heights l.rank;
  long : length l.heights ≡ length l.arities.items;
}
