-- What was loaded, as the code looks at it.
use Rattle.std.specs.Prelude.{◌≡◌, ◌<◌, ℕ, List, length, map, slice_index_or}
use Rattle.checkpoint.specs.Checkpoint.{IsCheckpointOf}
use Rattle.job_state.specs.declared.state.VertexState.{VertexState}
use Rattle.job_state.specs.State.{Standing, state_id}

-- these are the ids of the vertices, one by one
abbrev pub HasIds : List VertexState → List ℕ → Type 0
HasIds vertices ids =
    (length vertices ≡ length ids)
    × ((k : ℕ) → k < length vertices → slice_index_or (map state_id vertices) k 0 ≡ slice_index_or ids k 0)

-- the bytes are the checkpoint of this state, which is of this superstep and has these ids
pub record IsLoaded (s : ℕ) (own bytes : List ℕ) (state : Standing) : Type 0 where
  pub spelled : IsCheckpointOf bytes state
  pub superstep : state.superstep ≡ s
  pub ids : HasIds state.vertices own

-- they are the checkpoint of no such state
abbrev pub IsNotOf : ℕ → List ℕ → List ℕ → Type 0
IsNotOf s own bytes = (state : Standing) → IsLoaded s own bytes state → ⊥
