use Rattle.std.proofs.Common.{ℕ, [], ◌<◌, map, slice_index_or}
use Rattle.inbox.specs.inside.Blocks.{ids_of}
use Rattle.inbox.specs.inside.Grids.{AreOfBlock}
use Rattle.inbox.proofs.blocks.are_in_place.Given as goal

abbrev pub invariant-loop-index : goal.invariant-loop-index
invariant-loop-index l = (k : ℕ) → k < l.index → AreOfBlock l.grid k (slice_index_or (map ids_of l.blocks) k [])
