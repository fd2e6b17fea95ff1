-- What the calls of a Keep leave behind.
use Rattle.std.specs.Prelude.{◌≡◌, ◌<◌, ◌≤◌, ◌⊎◌, ◌^◌, ℕ, suc, List, Option, Some, None, Result, IsErrOf}
use Rattle.job_state.specs.State.{Standing}
use Rattle.checkpoint.specs.Checkpoint.{IsCheckpointOf}
use Rattle.checkpoint.specs.declared.keep.KeepFault.{KeepFault}
use Rattle.checkpoint.specs.declared.keep.KeepFault.TheVariants.{Device}

-- among the bytes that a load may return, these are the only checkpoint (`read` accepts nothing else)
abbrev pub Only : List ℕ → (List ℕ → Type 0) → Type 0
Only bytes may_load = (other : List ℕ) → may_load other → (state : Standing) → IsCheckpointOf other state → other ≡ bytes

-- once something was saved, a load may return one thing only
abbrev pub LoadsNothingElse : {K : Type 0} → (K → Option ℕ) → (K → List ℕ → Type 0) → Type 0
LoadsNothingElse {K} saved may_load =
    (keep : K) (s : ℕ) → saved keep ≡ Some s → (one other : List ℕ) → may_load keep one → may_load keep other → one ≡ other

-- after a failed save the last good one is unchanged, or gone if it had the same superstep
abbrev pub IsKeptOrNone : ℕ → Option ℕ → Option ℕ → Type 0
IsKeptOrNone superstep before after = (after ≡ before) ⊎ ((before ≡ Some superstep) × (after ≡ None))

-- the device failed once more, or its failures are too many to count
abbrev pub HasFailed : ℕ → ℕ → Type 0
HasFailed before after = (before < after) ⊎ (2 ^ 64 ≤ suc after)

-- `Device` is returned only if the device failed
pub record HasCause {T : Type 0} (before after : ℕ) (result : Result T KeepFault) : Type 0 where
  pub later : before ≤ after
  pub device : IsErrOf result Device → HasFailed before after
