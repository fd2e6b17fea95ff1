-- The states that a Keep has, and what saves and loads leave behind.
use Rattle.std.specs.Prelude.{◌≡◌, ◌⊎◌, ℕ, suc, List, Bool, true, Option, Some, None}
use Rattle.checkpoint.specs.Checkpoint.{IsCheckpointOf, checkpoint_bytes}
use Rattle.checkpoint.specs.Keep.{HasFailed}
use Rattle.superstep.specs.Ending.{WasBusy}
use Rattle.superstep.specs.Job.{Work}
use Rattle.job_state.specs.State.{Standing}
use Rattle.superstep.specs.State.{HasIdsOf, IsStateAt}
use Rattle.control.specs.declared.job_status.DeviceResult.{DeviceResult}
use Rattle.control.specs.declared.job_status.DeviceResult.TheVariants.{Failed}
use Rattle.control.specs.Machine.{Machine}
use Rattle.control.specs.Events.{Heard, begun}

-- It is the job's state before this superstep, with the units of each superstep before it.
pub record IsFullStateAt (work : Work) (s : ℕ) (state : Standing) : Type 0 where
  pub at : IsStateAt work s state
  pub since : state.since ≡ 0

-- a state of this superstep with the ids of the job's graph
pub record FitsAt (work : Work) (s : ℕ) (state : Standing) : Type 0 where
  pub superstep : state.superstep ≡ s
  pub ids : HasIdsOf work state

-- the checkpoint of the job's state before this superstep
pub record IsSavedAt (work : Work) (s : ℕ) (bytes : List ℕ) : Type 0 where
  pub state : Standing
  pub written : bytes ≡ checkpoint_bytes state
  pub spelled : IsCheckpointOf bytes state
  pub fits : FitsAt work s state
  pub full : IsFullStateAt work s state

-- the checkpoint of a state that fits there
pub record IsMadeAt (work : Work) (s : ℕ) (bytes : List ℕ) : Type 0 where
  pub state : Standing
  pub written : bytes ≡ checkpoint_bytes state
  pub spelled : IsCheckpointOf bytes state
  pub fits : FitsAt work s state

-- the checkpoint of no such state
abbrev pub IsOther : Work → ℕ → List ℕ → Type 0
IsOther work s bytes = (state : Standing) → IsCheckpointOf bytes state → FitsAt work s state → ⊥

-- A Keep has what the book counts as saved. If it is trusted, so that the epochs after a load are, every checkpoint that
-- it may load is that of the saved state.
pub record KeepsFor (work : Work) (trusted : ℕ → Bool) (honest : Bool) (kept : Option ℕ) (may_load : List ℕ → Type 0) (m : Machine) : Type 0 where
  pub trusts : trusted 1 ≡ true → honest ≡ true
  pub saved : (s : ℕ) → m.saved ≡ Some s → kept ≡ Some s
  pub bytes : trusted 1 ≡ true → (s : ℕ) → m.saved ≡ Some s → (bytes : List ℕ) → may_load bytes → (state : Standing) → IsCheckpointOf bytes state → IsSavedAt work s bytes

-- The Keep has what an earlier run of the job has left. The bytes that it may load and that are a checkpoint are that of the
-- job's state before this superstep, and the plain run comes there: something was to be called at each superstep up to it, and
-- at it.
pub record HasLeft (work : Work) (may_load : List ℕ → Type 0) (s : ℕ) : Type 0 where
  pub busy : WasBusy work (suc s)
  pub bytes : (bytes : List ℕ) → may_load bytes → (state : Standing) → IsCheckpointOf bytes state → IsSavedAt work s bytes

-- it may load bytes that are of no such state
abbrev pub MayLoadOther : Work → Option ℕ → (List ℕ → Type 0) → Type 0
MayLoadOther work None may_load = ⊥
MayLoadOther work (Some s) may_load = (bytes : List ℕ) × may_load bytes × IsOther work s bytes

-- ---- what an event leaves behind: the counts and the Keep

-- the counts grow only if the device failed, and restarts also if the Keep may load other bytes
pub record IsCaused (work : Work) (before after : Machine) (faults faults' : ℕ) (may_load : List ℕ → Type 0) : Type 0 where
  pub missed : (after.missed ≡ before.missed) ⊎ HasFailed faults faults'
  pub restarts : (after.restarts ≡ before.restarts) ⊎ (HasFailed faults faults' ⊎ MayLoadOther work before.saved may_load)

-- the last good save is of the new superstep, and the book counts it; or it is gone, as a save of the same superstep
-- failed
abbrev pub IsSavedOrNone : Machine → Option ℕ → Option ℕ → Type 0
IsSavedOrNone after kept kept' =
    ((after.saved ≡ Some after.superstep) × (kept' ≡ Some after.superstep)) ⊎ ((kept ≡ Some after.superstep) × (kept' ≡ None))

-- the last good save is unchanged, unless a superstep was closed
abbrev pub IsSavedOrLeft : Machine → Machine → Option ℕ → Option ℕ → Type 0
IsSavedOrLeft before after kept kept' =
    (kept' ≡ kept) ⊎ ((after.superstep ≡ suc before.superstep) × IsSavedOrNone after kept kept')

-- it may load no more than it might before
abbrev pub LoadsNoMore : (may_load may_load' : List ℕ → Type 0) → Type 0
LoadsNoMore may_load may_load' = (bytes : List ℕ) → may_load' bytes → may_load bytes

-- it may load the checkpoint of a state that fits there
pub record MayLoadMade (work : Work) (s : ℕ) (may_load : List ℕ → Type 0) : Type 0 where
  pub bytes : List ℕ
  pub may : may_load bytes
  pub made : IsMadeAt work s bytes

-- It may load no more than before, and the book counts as saved what it counted before, or nothing. If a superstep was
-- closed, the new state may have been saved instead: then it may load that, and the book counts it.
abbrev pub MayLoadAfter : Work → Machine → Machine → (may_load may_load' : List ℕ → Type 0) → Type 0
MayLoadAfter work before after may_load may_load' =
    (LoadsNoMore may_load may_load' × ((after.saved ≡ before.saved) ⊎ (after.saved ≡ None)))
    ⊎ ((after.superstep ≡ suc before.superstep) × (after.saved ≡ Some after.superstep) × MayLoadMade work after.superstep may_load')

-- What an event, or a step with one, leaves of the Keep. It has what the book counts as saved, and it is as a save or a
-- load left it, or unchanged.
pub record IsKeptStep {K : Type 0} (honest : K → Bool) (saved : K → Option ℕ) (may_load : K → List ℕ → Type 0) (faults : K → ℕ) (work : Work) (trusted : ℕ → Bool) (before after : Machine) (keep keep' : K) : Type 0 where
  pub keeps : KeepsFor work trusted (honest keep') (saved keep') (may_load keep') after
  pub cause : IsCaused work before after (faults keep) (faults keep') (may_load keep)
  pub left : IsSavedOrLeft before after (saved keep) (saved keep')
  pub loads : MayLoadAfter work before after (may_load keep) (may_load keep')

-- How a load went, and what the Keep has after it. `asked` is the superstep of the state that the book counts as saved.
pub record IsLoadResult (work : Work) (honest honest' : Bool) (kept kept' : Option ℕ) (may_load may_load' : List ℕ → Type 0) (faults faults' : ℕ) (asked : Option ℕ) (told : DeviceResult) : Type 0 where
  pub honest_is : honest' ≡ honest
  pub saved_is : kept' ≡ kept
  pub bytes_are : (bytes : List ℕ) → may_load' bytes → may_load bytes
  pub cause : told ≡ Failed → HasFailed faults faults' ⊎ MayLoadOther work asked may_load

-- What a book that goes on with a Keep's state begins with: the state before that superstep, or, where the device failed or
-- the Keep may load other bytes, all begins with superstep 0. Want of memory has ended the job. The Keep has what the book
-- counts as saved.
pub record IsBegun (work : Work) (trusted : ℕ → Bool) (honest honest' : Bool) (kept kept' : Option ℕ) (may_load may_load' : List ℕ → Type 0) (faults faults' : ℕ) (s : ℕ) (m : Machine) : Type 0 where
  pub heard : Heard
  pub machine : m ≡ begun heard work.settings s
  pub told : IsLoadResult work honest honest' kept kept' may_load may_load' faults faults' (Some s) heard.load
  pub keeps : KeepsFor work trusted honest' kept' may_load' m
