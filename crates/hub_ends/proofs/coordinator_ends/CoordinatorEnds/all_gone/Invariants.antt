use Rattle.std.proofs.Common.{◌≡◌, ℕ, ◌<◌, true, false, slice_index_or}
use Rattle.hub_ends.proofs.coordinator_ends.CoordinatorEnds.all_gone.Given as goal

abbrev pub invariant-loop-gone : goal.invariant-loop-gone
invariant-loop-gone g l = (k : ℕ) → k < l.gone-index → slice_index_or l.gone-items k false ≡ true
