-- The slots of parts as they are kept.
use Rattle.std.specs.Prelude.{◌≡◌, ◌<◌, ◌≤◌, ℕ, ℤ, List, length, map, slice_index_or, Bool, true, false}
use Rattle.superstep.specs.Job.{Work}
use Rattle.superstep.specs.Tasks.{AreAggregatesAt}
use Rattle.job_state.specs.Totals.{AreTotals}
use Rattle.superstep.specs.Totals.{AreTotalsOf}
use Rattle.job_state.specs.declared.totals.Totals.{Totals}
use Rattle.book.specs.declared.part_slots.PartSlot.{PartSlot}
use Rattle.book.specs.declared.part_slots.PartSlot.TheVariants.{Away, Back, Here}
use Rattle.book.specs.inside.Parts.{Spot}
use Rattle.book.specs.inside.Parts.Spot.{Gone, Home, Returned}

abbrev pub spot_of : {J : _} → PartSlot J → Spot
spot_of (Here slice) = Home
spot_of Away = Gone
spot_of (Back done) = Returned

abbrev pub spots_of : {J : _} → List (PartSlot J) → List Spot
spots_of part_slots = map spot_of part_slots

-- what is in the slot is of this superstep and this part, and of an epoch up to this one
abbrev pub IsInSlot : {J : _} → (epoch s part : ℕ) → PartSlot J → Type 0
IsInSlot epoch s part (Here slice) = (slice.superstep ≡ s) × (slice.part ≡ part) × (slice.epoch ≤ epoch)
IsInSlot epoch s part Away = Unit {0}
IsInSlot epoch s part (Back done) = (done.superstep ≡ s) × (done.part ≡ part) × (done.epoch ≤ epoch)

abbrev pub AreInSlots : {J : _} → (epoch s : ℕ) → List (PartSlot J) → Type 0
AreInSlots {J} epoch s part_slots = (part : ℕ) (any : PartSlot J) → part < length part_slots → IsInSlot epoch s part (slice_index_or part_slots part any)

-- this slice is in the slot
abbrev pub is_here : {J : _} → PartSlot J → Bool
is_here (Here slice) = true
is_here Away = false
is_here (Back done) = false

abbrev pub is_back : {J : _} → PartSlot J → Bool
is_back (Here slice) = false
is_back Away = false
is_back (Back done) = true

-- what is kept between two barriers
pub record IsKept (work : Work) (honest : ℕ → Bool) (epoch : ℕ) (totals : Totals) (aggregates : List ℤ) {J : _} (part_slots : List (PartSlot J)) : Type 0 where
  pub telling : AreTotals totals
  pub sums : honest epoch ≡ true → AreTotalsOf work totals
  pub since : honest epoch ≡ true → totals.since ≡ 0
  pub aggregators : honest epoch ≡ true → AreAggregatesAt work totals.superstep aggregates
  pub in_slots : AreInSlots epoch totals.superstep part_slots

-- each has what came back of its part
abbrev pub AreBack : {J : _} → List (PartSlot J) → Type 0
AreBack {J} part_slots = (part : ℕ) (any : PartSlot J) → part < length part_slots → is_back (slice_index_or part_slots part any) ≡ true
