-- The parts of a job between two barriers.
use Rattle.std.specs.Prelude.{◌≡◌, ◌<◌, ℕ, List, length, replicate, slice_index_or, slice_set, Bool, true, false}

-- where a part is
pub data Spot : Type 0 where
  -- its slice is in the book
  Home : Spot
  -- it went with a task
  Gone : Spot
  -- its result is in the book
  Returned : Spot

abbrev pub is_returned : Spot → Bool
is_returned Home = false
is_returned Gone = false
is_returned Returned = true

-- the model of the parts
pub record Placement : Type 0 where
  -- the last one of which something is here
  pub epoch : ℕ
  pub superstep : ℕ
  -- the first superstep of units
  pub since : ℕ
  pub spots : List Spot

-- the slices of a state, in this many parts
abbrev pub all_home : (epoch superstep since parts : ℕ) → Placement
all_home epoch superstep since parts = record { epoch = epoch; superstep = superstep; since = since; spots = replicate parts Home }

-- one part is in another place
abbrev pub moved : Placement → ℕ → Spot → Placement
moved placement part spot = record placement { spots = slice_set placement.spots part spot }

-- the part's result is here, of this epoch
abbrev pub returned : Placement → ℕ → ℕ → Placement
returned placement part epoch = record (moved placement part Returned) { epoch = epoch }

-- the part's slice is in the book
abbrev pub IsHome : Placement → ℕ → Type 0
IsHome placement part = (part < length placement.spots) × (slice_index_or placement.spots part Gone ≡ Home)
