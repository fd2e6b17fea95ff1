-- What a book holds, as it is kept.
use Rattle.std.specs.Prelude.{◌≡◌, ◌<◌, ◌≤◌, ℕ, suc, Bool, true, false, List, length, map, slice_index_or, Option, Some, None}
use Rattle.superstep.specs.Job.{Work}
use Rattle.job_state.specs.State.{Standing, is_settled, state_id}
use Rattle.superstep.specs.State.{HasIdsOf}
use Rattle.superstep.specs.Ending.{WasBusy}
use Rattle.control.specs.declared.control.Out.{Out}
use Rattle.control.specs.declared.job_status.JobStatus.{JobStatus}
use Rattle.control.specs.declared.job_status.JobStatus.TheVariants.{Fault, Finished, Limit, Running}
use Rattle.book.specs.declared.job_data.JobData.{JobData}
use Rattle.book.specs.declared.job_data.JobData.TheVariants.{Nothing, Parts, Whole}
use Rattle.control.specs.Machine.{Machine, has_answer, is_running, saved_or_first}
use Rattle.book.specs.inside.Parts.{Placement, Spot, is_returned}
use Rattle.book.specs.inside.Parts.Spot.{Gone, Home}
use Rattle.book.specs.Saving.{IsFullStateAt}
use Rattle.book.specs.Book.{IsQuietAt, has_finished}
use Rattle.control.specs.inside.Sound.{IsSound}

-- they are the ids of the job's graph
pub record AreIdsOf (work : Work) (own : List ℕ) : Type 0 where
  pub those : (state : Standing) → map state_id state.vertices ≡ own → HasIdsOf work state
  pub only : (state : Standing) → HasIdsOf work state → map state_id state.vertices ≡ own

-- how the plain run is at a superstep, where a job has this status
abbrev pub StandsAt : Work → JobStatus → ℕ → Type 0
StandsAt work Running s = IsQuietAt work s false × (s < work.settings.limit)
StandsAt work Finished s = IsQuietAt work s true × (s ≤ work.settings.limit)
StandsAt work Limit s = IsQuietAt work s false × (s ≡ work.settings.limit)
StandsAt work (Fault fault) s = Unit {0}

-- something was to be called at each superstep up to this one, and at it
abbrev pub WasBusyTo : Work → Option ℕ → Type 0
WasBusyTo work None = Unit {0}
WasBusyTo work (Some s) = WasBusy work (suc s)

-- the plain run reaches the superstep of the model
pub record IsReached (work : Work) (m : Machine) : Type 0 where
  pub busy : WasBusy work m.superstep
  pub saved : WasBusyTo work m.saved
  pub stands : StandsAt work m.ending m.superstep

-- a part that is away is some worker's task of this epoch
abbrev pub IsBacked : Machine → List Spot → Type 0
IsBacked m spots =
    (part : ℕ) → part < length spots → slice_index_or spots part Home ≡ Gone
    → (w : ℕ) × (task : Out) × (w < length m.out) × (slice_index_or m.out w None ≡ Some task) × (task.epoch ≡ m.epoch) × (task.part ≡ part)

-- the parts of a job that runs
pub record AreParts (work : Work) (m : Machine) (placement : Placement) : Type 0 where
  pub epoch : placement.epoch ≤ m.epoch
  pub running : is_running m.ending ≡ true
  pub superstep : placement.superstep ≡ m.superstep
  pub early : m.superstep < work.settings.limit
  pub done : m.done ≡ map is_returned placement.spots
  pub many : length placement.spots ≡ work.settings.parts
  pub sound : IsSound m
  pub backed : IsBacked m placement.spots

-- the state that a job ended with
pub record IsWhole (work : Work) (honest : ℕ → Bool) (m : Machine) (state : Standing) : Type 0 where
  pub answer : has_answer m.ending ≡ true
  pub superstep : state.superstep ≡ m.superstep
  pub ids : HasIdsOf work state
  pub at : honest m.epoch ≡ true → IsFullStateAt work state.superstep state
  pub quiet : is_settled state ≡ has_finished m.ending

abbrev pub is_fault : JobStatus → Bool
is_fault Running = false
is_fault Finished = false
is_fault Limit = false
is_fault (Fault fault) = true

abbrev pub HoldsData : {J : _} → Work → (ℕ → Bool) → Machine → JobData J → Type 0
HoldsData work honest m (Parts placement) = AreParts work m placement
HoldsData work honest m (Whole state) = IsWhole work honest m state
HoldsData work honest m Nothing = is_fault m.ending ≡ true

pub record IsBook (work : Work) (honest : ℕ → Bool) (own : Work) (m : Machine) (ids : List ℕ) {J : _} (job_data : JobData J) : Type 0 where
  pub job : own ≡ work
  pub settings : m.settings ≡ work.settings
  pub knows : AreIdsOf work ids
  pub held : HoldsData work honest m job_data
  pub past : saved_or_first m.saved ≤ m.superstep
  pub reached : honest m.epoch ≡ true → IsReached work m

-- it holds the state that a job ended with
abbrev pub HasWhole : {J : _} → JobData J → Type 0
HasWhole (Parts placement) = ⊥
HasWhole (Whole state) = Unit {0}
HasWhole Nothing = ⊥
