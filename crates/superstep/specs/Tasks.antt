-- Slices, tasks and results: the parts of a state that move. Each has its job in its type.
use Rattle.std.specs.Prelude.{◌≡◌, ◌%◌, ◌==◌, ℕ, zero, suc, ℤ, Bool, true, not, List, [], map, filter, slice_get, Some}
use Rattle.std.specs.List.{All, flat_map, range_with_len}
use Rattle.std.specs.List.Sorted.{IsPermutation}
use Rattle.semantics.specs.Call.{Outcome}
use Rattle.graph.specs.Entry.{ids}
use Rattle.inbox.specs.declared.letters.Letter.{Letter}
use Rattle.inbox.specs.Merging.{letters_sent}
use Rattle.job_state.specs.Stamps.{DoneStamp}
use Rattle.job_state.specs.declared.state.VertexState.{VertexState}
use Rattle.job_state.specs.State.{capped, state_id}
use Rattle.superstep.specs.Folds.{aggregated}
use Rattle.superstep.specs.Snapshot.{Row, Snapshot}
use Rattle.superstep.specs.Superstep.{contributions_of, left_by, sends_left, units_left}
use Rattle.superstep.specs.PlainRun.{state_at}
use Rattle.superstep.specs.Job.{Meaning, Work}
use Rattle.superstep.specs.State.{bare}

-- the rows of one part: those whose id has this remainder
abbrev pub part_rows : ℕ → Snapshot → ℕ → List Row
part_rows parts snapshot part = filter (λ (row : Row). row.id % parts == part) snapshot.rows

-- the ids of the vertices are those of this part of the job's graph
abbrev pub FitsPart : Work → ℕ → List VertexState → Type 0
FitsPart work part vertices = slice_get (map ids work.parts) part ≡ Some (map state_id vertices)

-- the vertices are this part of the snapshot before this superstep
abbrev pub IsPartAt : Work → ℕ → ℕ → List VertexState → Type 0
IsPartAt work s part vertices =
    (meaning : Meaning work)
    → vertices ≡ map bare (part_rows work.settings.parts (state_at meaning.outcomes meaning.graph s) part)

-- these are the aggregates of the superstep before this one
abbrev pub AreAggregatesAt : Work → ℕ → List ℤ → Type 0
AreAggregatesAt work s aggregates =
    (meaning : Meaning work) → aggregates ≡ (state_at meaning.outcomes meaning.graph s).aggregates

-- In epoch 0 of a job that began with superstep 0 nothing was loaded. Later epochs are trusted if its Keep is honest.
abbrev pub trusts : (honest : Bool) → (epoch : ℕ) → Bool
trusts honest zero = true
trusts honest (suc epoch) = honest

-- the model of a slice
pub record SliceStamp : Type 0 where
  -- the one in which it was made
  pub epoch : ℕ
  pub superstep : ℕ
  pub part : ℕ

-- one for each part, in order
abbrev pub stamps_of : ℕ → ℕ → ℕ → List SliceStamp
stamps_of epoch s parts = map (λ part. record { epoch = epoch; superstep = s; part = part }) (range_with_len 0 parts)

-- what always holds for a slice
pub record IsSlice (work : Work) (honest : ℕ → Bool) (stamp : SliceStamp) (vertices : List VertexState) : Type 0 where
  pub fits : FitsPart work stamp.part vertices
  pub at : honest stamp.epoch ≡ true → IsPartAt work stamp.superstep stamp.part vertices

-- a vertex's id, and the outcome of its call
abbrev pub VertexOutcome : Type 0
VertexOutcome = ℕ × Outcome

abbrev pub outcomes_in : List VertexOutcome → List Outcome
outcomes_in left = map (λ (one : VertexOutcome). one.1) left

-- the letters of a vertex: its messages, numbered in the order of sending
abbrev pub letters_from : ℕ → Outcome → List Letter
letters_from id outcome = letters_sent id outcome.sends

-- the letters of several vertices, one vertex after another
abbrev pub letters_of : List VertexOutcome → List Letter
letters_of left = flat_map (λ (one : VertexOutcome). letters_from one.0 one.1) left

-- a vertex after its call, with an empty inbox
abbrev pub emptied : VertexOutcome → VertexState
emptied one = record { id = one.0; value = one.1.value; active = not one.1.halted; inbox = [] }

-- The result of a part has the outcomes of its vertices.
pub record ComesBack (left : List VertexOutcome) (after : List VertexState) (sent : List Letter) (folded : List ℤ) (total : ℕ) : Type 0 where
  pub vertices : after ≡ map emptied left
  -- in any order
  pub letters : IsPermutation (letters_of left) sent
  pub aggregators : folded ≡ aggregated (contributions_of (outcomes_in left))
  pub units : total ≡ capped (units_left (outcomes_in left))

-- these are the outcomes of a part's vertices in this superstep
abbrev pub IsLeftAt : Work → ℕ → ℕ → List VertexOutcome → Type 0
IsLeftAt work s part left =
    (meaning : Meaning work)
    → left ≡ map (λ (row : Row). (row.id, left_by meaning.outcomes s (state_at meaning.outcomes meaning.graph s) row))
    (part_rows work.settings.parts (state_at meaning.outcomes meaning.graph s) part)

-- these are the units of this part's calls in this superstep
abbrev pub AreUnitsAt : Work → ℕ → ℕ → ℕ → Type 0
AreUnitsAt work s part units =
    (meaning : Meaning work)
    → units ≡ capped (units_left (map (left_by meaning.outcomes s (state_at meaning.outcomes meaning.graph s))
    (part_rows work.settings.parts (state_at meaning.outcomes meaning.graph s) part)))

-- this is the number of messages that this part's vertices send in this superstep
abbrev pub IsSentAt : Work → ℕ → ℕ → ℕ → Type 0
IsSentAt work s part sent =
    (meaning : Meaning work)
    → sent ≡ sends_left (map (left_by meaning.outcomes s (state_at meaning.outcomes meaning.graph s))
    (part_rows work.settings.parts (state_at meaning.outcomes meaning.graph s) part))

-- what always holds for a result
pub record IsDone (work : Work) (honest : ℕ → Bool) (stamp : DoneStamp) (vertices : List VertexState) (letters : List Letter) (aggregators : List ℤ) : Type 0 where
  pub fits : FitsPart work stamp.part vertices
  pub left : List VertexOutcome
  pub comes : ComesBack left vertices letters aggregators stamp.units
  pub at : honest stamp.epoch ≡ true → IsLeftAt work stamp.superstep stamp.part left

-- their epochs are trusted
abbrev pub AreTrusted : (ℕ → Bool) → List DoneStamp → Type 0
AreTrusted honest dones = All (λ (done : DoneStamp). honest done.epoch ≡ true) dones

-- one for each part, in order, all of this superstep
pub record IsRow (parts s : ℕ) (dones : List DoneStamp) : Type 0 where
  pub supersteps : All (λ (done : DoneStamp). done.superstep ≡ s) dones
  pub in_order : map (λ (done : DoneStamp). done.part) dones ≡ range_with_len 0 parts
