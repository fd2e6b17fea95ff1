-- Edges placed at their source vertices.
use Rattle.std.specs.Prelude.{◌≡◌, ◌<◌, ◌≤◌, ◌-◌, ◌++◌, ◌∷◌, [], ℕ, pos, List, length, map, slice_index, slice_index_or, slice_set, take}
use Rattle.std.specs.List.{All, Contains}
use Rattle.graph.specs.declared.vertex.Edge.{Edge}
use Rattle.graph.specs.declared.vertex.Vertex.{Vertex}
use Rattle.graph.specs.Entry.{Entry, edges_from, end_of, entries_of, ids}

-- a vertex with the edges from it after those that it has
abbrev pub with_edges : List Edge → Entry → Entry
with_edges edges entry =
    record { id = entry.id; value = entry.value; edges = entry.edges ++ edges_from edges entry.id }

-- both ends of the edge are among the ids
pub record HasEnds (ids : List ℕ) (edge : Edge) : Type 0 where
  pub from : Contains ids edge.from
  pub target : Contains ids edge.target

-- the edge in this place is the first with an end that is not among the ids
pub record IsFirstUnknown (ids : List ℕ) (edges : List Edge) (place : ℕ) : Type 0 where
  pub below : place < length edges
  pub before : All (HasEnds ids) (take place edges)
  pub unknown : (d : Edge) → ¬ HasEnds ids (slice_index_or edges place d)

abbrev pub none : Entry
none = record { id = 0; value = pos 0; edges = [] }

abbrev pub push_end : Edge → Entry → Entry
push_end edge entry = record { id = entry.id; value = entry.value; edges = entry.edges ++ end_of edge ∷ [] }

-- one more edge at the vertex in this place
abbrev pub set_edge : List Entry → ℕ → Edge → List Entry
set_edge graph place edge = slice_set graph place (push_end edge (slice_index_or graph place none))

-- ---- the same for vertices as the code has them

-- each vertex has the edges from it after those that it had
abbrev pub PlacesEdges : List Edge → (old new : List Vertex) → Type 0
PlacesEdges edges old new = entries_of new ≡ map (with_edges edges) (entries_of old)

-- both ends of each edge are among the vertices
abbrev pub HaveEnds : List Vertex → List Edge → Type 0
HaveEnds vertices edges = All (HasEnds (ids (entries_of vertices))) edges

-- one more edge at the vertex in this place
abbrev pub PlacesEdge : ℕ → (old new : List Vertex) → Edge → Type 0
PlacesEdge place old new edge = entries_of new ≡ set_edge (entries_of old) place edge

-- the id is in this place
abbrev pub StandsAt : List ℕ → ℕ → ℕ → Type 0
StandsAt ids id place = (place < length ids) × (slice_index ids place ≡ id)

-- the id is from the first of these ids to the last
abbrev pub IsInSpan : List ℕ → ℕ → Type 0
IsInSpan ids id = (0 < length ids) × (slice_index ids 0 ≤ id) × (id ≤ slice_index ids (length ids - 1))

-- the edge leaves the vertex whose id is in this place, and its target is among the ids
abbrev pub LeavesAt : List ℕ → Edge → ℕ → Type 0
LeavesAt ids edge place = (place < length ids) × (slice_index ids place ≡ edge.from) × Contains ids edge.target
