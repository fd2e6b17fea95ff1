-- The plain run of a job, superstep after superstep on one machine, and its answer.
use Rattle.std.specs.Prelude.{◌≡◌, ◌≤◌, ◌<◌, ℕ, ℤ, zero, suc, Bool, true, false, List, [], map}
use Rattle.semantics.specs.Call.{Outcome}
use Rattle.semantics.specs.Outcomes.{Given}
use Rattle.graph.specs.Entry.{Entry}
use Rattle.verified.specs.Aggregators.{aggregator_starts}
use Rattle.job_state.specs.State.{capped}
use Rattle.superstep.specs.Snapshot.{Row, Snapshot, is_quiet, values_of}
use Rattle.superstep.specs.Superstep.{superstep, all_left, units_left}

-- a vertex before superstep 0: it is active, and its inbox is empty
abbrev pub first_row : Entry → Row
first_row entry = record { id = entry.id; value = entry.value; edges = entry.edges; active = true; inbox = [] }

-- the snapshot before superstep 0
abbrev pub first : List Entry → Snapshot
first graph = record { rows = map first_row graph; aggregates = aggregator_starts; units = 0; dropped = 0 }

-- the snapshot before this superstep
unfoldable pub state_at : (Given → Outcome) → List Entry → ℕ → Snapshot
state_at outcomes graph zero = first graph
state_at outcomes graph (suc s) = superstep outcomes s (state_at outcomes graph s)

-- the units of all calls of this superstep
abbrev pub units_at : (Given → Outcome) → List Entry → ℕ → ℕ
units_at outcomes graph s = capped (units_left (all_left outcomes s (state_at outcomes graph s)))

-- The superstep at which the job ends: the first one at which no vertex is to be called, and then the job is finished; or else
-- the limit.
pub record IsEnd (outcomes : Given → Outcome) (graph : List Entry) (limit : ℕ) (finished : Bool) (s : ℕ) : Type 0 where
  pub within : s ≤ limit
  pub quiet : is_quiet (state_at outcomes graph s) ≡ finished
  pub busy : (t : ℕ) → t < s → is_quiet (state_at outcomes graph t) ≡ false
  pub last : finished ≡ false → s ≡ limit

-- the answer of a job
pub record Answer : Type 0 where
  pub finished : Bool
  pub superstep : ℕ
  pub values : List (ℕ × ℤ)
  pub units : ℕ
  pub dropped : ℕ

-- this is the job's answer
pub record IsAnswer (outcomes : Given → Outcome) (graph : List Entry) (limit : ℕ) (answer : Answer) : Type 0 where
  pub ends : IsEnd outcomes graph limit answer.finished answer.superstep
  pub values : answer.values ≡ values_of (state_at outcomes graph answer.superstep)
  pub units : answer.units ≡ (state_at outcomes graph answer.superstep).units
  pub dropped : answer.dropped ≡ (state_at outcomes graph answer.superstep).dropped
