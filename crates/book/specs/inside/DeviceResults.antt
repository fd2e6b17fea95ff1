-- How a save went, and what the Keep has after it.
use Rattle.std.specs.Prelude.{◌≡◌, ℕ, List, Bool, true, Option, Some}
use Rattle.checkpoint.specs.Checkpoint.{IsCheckpointOf, checkpoint_bytes}
use Rattle.checkpoint.specs.Keep.{HasFailed, IsKeptOrNone}
use Rattle.job_state.specs.State.{Standing}
use Rattle.control.specs.declared.job_status.DeviceResult.{DeviceResult}
use Rattle.control.specs.declared.job_status.DeviceResult.TheVariants.{Failed, Good}

-- the save of this state
pub record IsSaveResult (state : Standing) (honest honest' : Bool) (kept kept' : Option ℕ) (may_load may_load' : List ℕ → Type 0) (faults faults' : ℕ) (told : DeviceResult) : Type 0 where
  pub honest_is : honest' ≡ honest
  pub saved_is : told ≡ Good → kept' ≡ Some state.superstep
  pub bytes_are : told ≡ Good → honest ≡ true → (bytes : List ℕ) → may_load' bytes → (other : Standing) → IsCheckpointOf bytes other → (bytes ≡ checkpoint_bytes state) × IsCheckpointOf bytes state
  pub held : told ≡ Good → may_load' (checkpoint_bytes state) × IsCheckpointOf (checkpoint_bytes state) state
  pub left : (told ≡ Good → ⊥) → IsKeptOrNone state.superstep kept kept'
  pub left_bytes : (told ≡ Good → ⊥) → (bytes : List ℕ) → may_load' bytes → may_load bytes
  pub cause : told ≡ Failed → HasFailed faults faults'
