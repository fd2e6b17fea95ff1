use Rattle.std.proofs.Common.{◌≡◌, max, drop}
use Rattle.verified.specs.CallHeights.{most}
use Rattle.cost.specs.Marks.{rank_at}
use Rattle.cost.proofs.walk.greatest_rank.Given as goal

abbrev pub invariant-loop-function : goal.invariant-loop-function
invariant-loop-function l =
    most (rank_at l.ranks) l.functions ≡ max l.greatest (most (rank_at l.ranks) (drop l.function-index l.functions))
