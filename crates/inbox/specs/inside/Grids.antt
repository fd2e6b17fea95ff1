-- Ids by the block in which they are, and by their place there.
use Rattle.std.specs.Prelude.{◌≡◌, ◌<◌, ◌-◌, ◌/◌, ◌%◌, ◌==◌, max, cond, ℕ, ℤ, pos, negsuc, List, length, slice_index, Option, Some, None, nat_le}
use Rattle.inbox.specs.declared.grid.Grid.{Grid}
use Rattle.inbox.specs.declared.grid.Spot.{Spot}

abbrev pub spot : ℕ → ℕ → Spot
spot number place = record { block = number; place = place }

-- the spot of the id at this distance from the first
abbrev pub spot_at : Grid → ℕ → Option Spot
spot_at grid far = cond ((far % max grid.gap 1) == 0) (Some (spot (far / max grid.gap 1 / 4096) (far / max grid.gap 1 % 4096))) None

abbrev pub spot_of : Grid → ℕ → Option Spot
spot_of grid id = cond (nat_le grid.first id) (spot_at grid (id - grid.first)) None

abbrev pub spot_for : Grid → ℤ → Option Spot
spot_for grid (pos id) = spot_of grid id
spot_for grid (negsuc n) = None

-- these are the ids of this block, from its first one on
abbrev pub AreOfBlock : Grid → ℕ → List ℕ → Type 0
AreOfBlock grid number ids = (k : ℕ) → k < length ids → spot_of grid (slice_index ids k) ≡ Some (spot number k)
