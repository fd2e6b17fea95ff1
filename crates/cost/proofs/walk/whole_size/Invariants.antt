use Rattle.std.proofs.Common.{◌≡◌, ◌+◌, ◌≤◌, min, take}
use Rattle.std.specs.Prelude.{sum_by}
use Rattle.cost.specs.inside.Outline.{cap}
use Rattle.cost.specs.Marks.{size_at}
use Rattle.cost.proofs.walk.whole_size.Given as goal

abbrev pub invariant-loop-function : goal.invariant-loop-function
invariant-loop-function l =
    record {
      capped : l.total ≤ cap;
      sums : l.total ≡ min cap (l.own + sum_by (size_at l.ranks) (take l.function-index l.functions));
    }
