-- Vertices in lists, as the code has them.
use Rattle.std.specs.Prelude.{◌<◌, ℕ, Bool, List, [], true, length, map, slice_index_or}
use Rattle.graph.specs.Entry.{Entry}
use Rattle.job_state.specs.declared.state.VertexState.{VertexState}
use Rattle.superstep.specs.Job.{Work}
use Rattle.superstep.specs.Tasks.{IsSlice}

-- a vertex before superstep 0
abbrev pub first_vertex : Entry → VertexState
first_vertex entry = record { id = entry.id; value = entry.value; active = true; inbox = [] }

abbrev pub first_vertices : List Entry → List VertexState
first_vertices entries = map first_vertex entries

-- the vertices of each part fit the slice of its number
abbrev pub AreSlices : Work → (ℕ → Bool) → ℕ → ℕ → List (List VertexState) → Type 0
AreSlices work honest epoch s parts =
    (part : ℕ) → part < length parts → IsSlice work honest (record { epoch = epoch; superstep = s; part = part }) (slice_index_or parts part [])
