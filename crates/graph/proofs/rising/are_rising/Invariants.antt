use Rattle.std.proofs.Common.{ℕ, ◌+◌, ◌<◌, slice_index}
use Rattle.graph.specs.Entry.{entries_of, ids}
use Rattle.graph.proofs.rising.are_rising.Given as goal

abbrev pub invariant-loop-index : goal.invariant-loop-index
invariant-loop-index l = (k : ℕ) → k + 1 < l.index → slice_index (ids (entries_of l.vertices)) k < slice_index (ids (entries_of l.vertices)) (k + 1)
