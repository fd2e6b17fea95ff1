-- Which states are those of a job between two supersteps.
use Rattle.std.specs.Prelude.{◌≡◌, ◌-◌, ℕ, List, map}
use Rattle.std.specs.List.{range_with_len}
use Rattle.semantics.specs.Call.{Outcome}
use Rattle.semantics.specs.Outcomes.{Given}
use Rattle.graph.specs.Entry.{Entry, ids}
use Rattle.job_state.specs.declared.state.VertexState.{VertexState}
use Rattle.job_state.specs.State.{Standing, state_id}
use Rattle.superstep.specs.Snapshot.{Row}
use Rattle.superstep.specs.PlainRun.{state_at, units_at}
use Rattle.superstep.specs.Job.{IsGraphOf, Meaning, Work}

-- its vertices have the ids of the job's graph
abbrev pub HasIdsOf : Work → Standing → Type 0
HasIdsOf work state = (graph : List Entry) → IsGraphOf work graph → map state_id state.vertices ≡ ids graph

-- a vertex without its edges
abbrev pub bare : Row → VertexState
bare row = record { id = row.id; value = row.value; active = row.active; inbox = row.inbox }

-- The state is the snapshot before this superstep, without edges.
pub record ShowsAt (outcomes : Given → Outcome) (graph : List Entry) (s : ℕ) (state : Standing) : Type 0 where
  pub superstep : state.superstep ≡ s
  pub vertices : state.vertices ≡ map bare (state_at outcomes graph s).rows
  pub aggregates : state.aggregates ≡ (state_at outcomes graph s).aggregates
  pub units : state.units ≡ (state_at outcomes graph s).units
  pub dropped : state.dropped ≡ (state_at outcomes graph s).dropped
  pub by_superstep : state.by_superstep ≡ map (units_at outcomes graph) (range_with_len state.since (s - state.since))

-- it is the state of the job before this superstep
abbrev pub IsStateAt : Work → ℕ → Standing → Type 0
IsStateAt work s state = (meaning : Meaning work) → ShowsAt meaning.outcomes meaning.graph s state
