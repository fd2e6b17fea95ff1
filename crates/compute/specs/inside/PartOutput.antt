-- The output of a part's calls, as the code has it.
use Rattle.std.specs.Prelude.{◌≡◌, ◌++◌, ◌∷◌, ◌+◌, ℕ, List, [], map}
use Rattle.std.specs.List.{fold}
use Rattle.semantics.specs.Call.{Outcome}
use Rattle.semantics.specs.Outcomes.{Given}
use Rattle.graph.specs.Entry.{Entry}
use Rattle.compute.specs.declared.part_output.PartOutput.{PartOutput}
use Rattle.job_state.specs.declared.state.VertexState.{VertexState}
use Rattle.superstep.specs.declared.task.Shared.{Shared}
use Rattle.job_state.specs.State.{capped, state_id}
use Rattle.superstep.specs.Folds.{give}
use Rattle.verified.specs.Aggregators.{aggregator_starts}
use Rattle.superstep.specs.Snapshot.{Row}
use Rattle.superstep.specs.Tasks.{ComesBack, VertexOutcome, emptied, letters_from}
use Rattle.superstep.specs.inside.Barrier.{left_id}
use Rattle.superstep.specs.inside.Called.{Tells, left_in, row_of}

-- this is the output before the first call
pub record IsNothing (left : PartOutput) : Type 0 where
  pub letters : left.letters ≡ []
  pub aggregators : left.aggregators ≡ aggregator_starts
  pub units : left.units ≡ 0

-- The outcome of the vertex with this id is added to the output of others. If the total of their units was capped, the new
-- total is capped too.
pub record Adds (id : ℕ) (outcome : Outcome) (old new : PartOutput) : Type 0 where
  pub letters : new.letters ≡ old.letters ++ letters_from id outcome
  pub aggregators : new.aggregators ≡ fold give old.aggregators outcome.contributions
  pub units : (total : ℕ) → old.units ≡ capped total → new.units ≡ capped (total + outcome.units)

-- the vertex is called, or stays as it is
pub record CallsVertex (shared : Shared) (entry : Entry) (before after : VertexState) (old new : PartOutput) : Type 0 where
  pub outcome : Outcome
  pub is : (outcomes : Given → Outcome) → Tells shared.verified.now outcomes → outcome ≡ left_in outcomes shared (row_of entry before)
  pub vertex : after ≡ emptied (before.id, outcome)
  pub adds : Adds before.id outcome old new

-- the vertices of a part, each with its edges
abbrev pub rows_of : List Entry → List VertexState → List Row
rows_of [] vertices = []
rows_of (entry ∷ entries) [] = []
rows_of (entry ∷ entries) (vertex ∷ vertices) = row_of entry vertex ∷ rows_of entries vertices

-- the vertices of a part are called, or stay as they are, and this is their output
pub record CallsPart (shared : Shared) (entries : List Entry) (before after : List VertexState) (all : PartOutput) : Type 0 where
  pub left : List VertexOutcome
  pub comes : ComesBack left after all.letters all.aggregators all.units
  pub ids : map left_id left ≡ map state_id before
  pub is : (outcomes : Given → Outcome) → Tells shared.verified.now outcomes
      → left ≡ map (λ (row : Row). (row.id, left_in outcomes shared row)) (rows_of entries before)
