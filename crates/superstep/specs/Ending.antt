-- The report of a job's end.
use Rattle.std.specs.Prelude.{◌≡◌, ◌<◌, ◌≤◌, ◌-◌, ℕ, ℤ, List, Bool, true, false, map}
use Rattle.std.specs.List.{range_with_len}
use Rattle.superstep.specs.declared.ending.JobEnd.{JobEnd}
use Rattle.superstep.specs.declared.ending.EndReason.{EndReason}
use Rattle.superstep.specs.declared.ending.EndReason.TheVariants.{Finished, Limit}
use Rattle.job_state.specs.declared.state.VertexState.{VertexState}
use Rattle.superstep.specs.Snapshot.{is_quiet}
use Rattle.superstep.specs.PlainRun.{Answer, IsAnswer, state_at, units_at}
use Rattle.superstep.specs.Job.{Meaning, Work}
use Rattle.job_state.specs.State.{Standing, is_settled}
use Rattle.superstep.specs.State.{HasIdsOf, IsStateAt}

abbrev pub is_finished : EndReason → Bool
is_finished Finished = true
is_finished Limit = false

-- the answer in a report
abbrev pub answer_of : JobEnd → Answer
answer_of ended = record {
  finished = is_finished ended.how;
  superstep = ended.superstep;
  values = ended.values.items;
  units = ended.units;
  dropped = ended.dropped;
}

-- The report has the job's answer, and the units of each superstep from `since` on.
pub record Ends (work : Work) (meaning : Meaning work) (ended : JobEnd) : Type 0 where
  pub answer : IsAnswer meaning.outcomes meaning.graph work.settings.limit (answer_of ended)
  pub by_superstep : ended.by_superstep.items
      ≡ map (units_at meaning.outcomes meaning.graph) (range_with_len ended.since (ended.superstep - ended.since))

abbrev pub IsEndOf : Work → JobEnd → Type 0
IsEndOf work ended = (meaning : Meaning work) → Ends work meaning ended

-- ---- the state at which a run stops

-- in each superstep before this one some vertex was called
abbrev pub WasBusy : Work → ℕ → Type 0
WasBusy work s = (meaning : Meaning work) (t : ℕ) → t < s → is_quiet (state_at meaning.outcomes meaning.graph t) ≡ false

-- the run has reached this state
pub record HasCome (work : Work) (state : Standing) : Type 0 where
  pub at : IsStateAt work state.superstep state
  pub has_ids : HasIdsOf work state
  pub within : state.superstep ≤ work.settings.limit
  pub busy : WasBusy work state.superstep

-- and stops there: no vertex is to be called, or the limit is reached
pub record HasStopped (work : Work) (state : Standing) : Type 0 where
  pub come : HasCome work state
  pub last : is_settled state ≡ false → state.superstep ≡ work.settings.limit

-- the vertices with their values
abbrev pub states_values : List VertexState → List (ℕ × ℤ)
states_values vertices = map (λ (vertex : VertexState). (vertex.id, vertex.value)) vertices

-- The report has the numbers and the values of the state.
pub record IsEndIn (state : Standing) (ended : JobEnd) : Type 0 where
  pub how : is_finished ended.how ≡ is_settled state
  pub superstep : ended.superstep ≡ state.superstep
  pub values : ended.values.items ≡ states_values state.vertices
  pub units : ended.units ≡ state.units
  pub dropped : ended.dropped ≡ state.dropped
  pub since : ended.since ≡ state.since
  pub by_superstep : ended.by_superstep.items ≡ state.by_superstep
