-- What a Keep on disk knows.
use Rattle.std.specs.Prelude.{◌≡◌, ℕ, List, length, Option, IfSome, MatchOption, option_map}
use Rattle.job_state.specs.State.{Standing}
use Rattle.checkpoint.specs.Checkpoint.{IsCheckpointOf, seal_of}
use Rattle.checkpoint.specs.declared.files.FileKeep.{FileKeep}
use Rattle.checkpoint.specs.declared.files.Saved.{Saved}

-- the superstep of the last good save
abbrev pub superstep_on : FileKeep → Option ℕ
superstep_on keep = option_map (λ saved. saved.superstep) keep.saved

-- the bytes have the length and the seal of what was saved
pub record IsSealedAs (saved : Saved) (bytes : List ℕ) : Type 0 where
  pub length_of : length bytes ≡ saved.length
  pub seal : seal_of bytes ≡ saved.seal.items

-- if something was saved, the bytes have its length and its seal
abbrev pub IsSealedOn : FileKeep → List ℕ → Type 0
IsSealedOn keep bytes = MatchOption keep.saved (Unit {0}) (λ saved. IsSealedAs saved bytes)

-- how often the device has failed
abbrev pub failures_of : FileKeep → ℕ
failures_of keep = keep.failures

-- the bytes are the checkpoint of a state before this superstep, and what is remembered is their superstep, length and seal
pub record IsOfCheckpointAt (superstep : ℕ) (bytes : List ℕ) (saved : Saved) : Type 0 where
  pub state : Standing
  pub spelled : IsCheckpointOf bytes state
  pub superstep_is : state.superstep ≡ superstep
  pub same : saved.superstep ≡ superstep
  pub sealed : IsSealedAs saved bytes

-- what is remembered is of a checkpoint
abbrev pub IsOfCheckpoint : Saved → Type 0
IsOfCheckpoint saved = (superstep : ℕ) × (bytes : List ℕ) × IsOfCheckpointAt superstep bytes saved

-- what is counted as saved is a checkpoint of that superstep
abbrev pub HasCheckpoint : FileKeep → Type 0
HasCheckpoint keep = IfSome keep.saved IsOfCheckpoint
