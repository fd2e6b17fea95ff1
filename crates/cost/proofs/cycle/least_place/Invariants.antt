use Rattle.std.proofs.Common.{◌<◌, ◌≤◌, ℕ, slice_index}
use Rattle.cost.proofs.cycle.least_place.Given as goal

abbrev pub invariant-loop-index : goal.invariant-loop-index
invariant-loop-index l =
    record {
      within : l.place ≤ l.index;
      inside : 0 < l.index → l.place < l.index;
      least : (k : ℕ) → k < l.index → slice_index l.items l.place ≤ slice_index l.items k;
    }
