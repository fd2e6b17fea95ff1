use Rattle.std.proofs.Common.{ℕ, ◌≡◌, ◌<◌, Some, slice_index}
use Rattle.inbox.specs.inside.Grids.{spot, spot_of}
use Rattle.inbox.proofs.grid.Grid.has_in_order.Given as goal

abbrev pub invariant-loop-place : goal.invariant-loop-place
invariant-loop-place l = (k : ℕ) → k < l.place → spot_of l.self (slice_index l.ids k) ≡ Some (spot l.number k)
