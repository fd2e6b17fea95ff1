-- The graph of some edges, and its text.
use Rattle.std.specs.Prelude.{ℕ, Bool, ◌/◌, ◌==◌, max, ℤ, pos, List, ◌∷◌, [], ◌++◌, map, count_by, codes, Option, Some, None, if◌then◌else◌}
use Rattle.std.specs.List.{Contains, flat_map, range_with_len}
use Rattle.std.specs.List.Sorted.{IsStrictlyIncreasing}
use Rattle.std.specs.Fmt.{decimal, signed_decimal}
use Rattle.graph.specs.declared.vertex.Edge.{Edge}
use Rattle.graph.specs.Entry.{Entry, edges_from}
use Rattle.graph.specs.Print.{value_lines}
use Rattle.conversions.specs.declared.graph_import.writing.Values.{Values}

-- ---- vertices

abbrev pub from_of : Edge → ℕ
from_of edge = edge.from

abbrev pub target_of : Edge → ℕ
target_of edge = edge.target

-- the sources and the targets of edges, and the ids from 1 to `declared`
abbrev pub ends : (declared : ℕ) → List Edge → List ℕ
ends declared edges = map from_of edges ++ map target_of edges ++ range_with_len 1 declared

-- the ids are these numbers, each once, in order
pub record AreIdsOf (numbers ids : List ℕ) : Type 0 where
  pub rising : IsStrictlyIncreasing ids
  pub all : (id : ℕ) → Contains numbers id → Contains ids id
  pub only : (id : ℕ) → Contains ids id → Contains numbers id

abbrev pub value_beside : (source : Option ℕ) → (other : ℤ) → ℕ → ℤ
value_beside None other id = other
value_beside (Some source) other id = if source == id then pos 0 else other

-- the source's value is 0, and that of any other vertex the same
abbrev pub value_at : Values → ℕ → ℤ
value_at values id = value_beside values.source values.other id

abbrev pub valued : Values → ℕ → ℕ × ℤ
valued values id = (id, value_at values id)

-- ---- edges

-- how many edges leave a vertex
abbrev pub count_from : List Edge → ℕ → ℕ
count_from edges id = count_by (λ edge. edge.from == id) edges

-- the share of 2^32 of each of `count` edges, where at least one is counted
abbrev pub share_of : ℕ → ℤ
share_of count = pos (4294967296 / max count 1)

-- the edge with its share among the edges from its source
abbrev pub shared : (all : List Edge) → Edge → Edge
shared all edge = record { from = edge.from; target = edge.target; value = share_of (count_from all edge.from) }

-- the edges as they are, or with their shares
abbrev pub weighed : (shares : Bool) → List Edge → List Edge
weighed shares edges = if shares then map (shared edges) edges else edges

-- ---- the graph

abbrev pub vertex_of : List Edge → ℕ × ℤ → Entry
vertex_of edges vertex = record { id = vertex.0; value = vertex.1; edges = edges_from edges vertex.0 }

-- these vertices with their values, each with the edges from it in their order
abbrev pub graph_of : List (ℕ × ℤ) → List Edge → List Entry
graph_of vertices edges = map (vertex_of edges) vertices

-- `e FROM TO VALUE`, and a line feed
abbrev pub edge_line : Edge → List ℕ
edge_line edge =
    codes "e " ++ decimal edge.from ++ codes " " ++ decimal edge.target ++ codes " " ++ signed_decimal edge.value ++ 10 ∷ []

abbrev pub edge_lines : List Edge → List ℕ
edge_lines edges = flat_map edge_line edges

-- a line for each vertex, and then one for each edge
abbrev pub graph_text : List (ℕ × ℤ) → List Edge → List ℕ
graph_text vertices edges = value_lines vertices ++ edge_lines edges
