-- A graph as a list of vertices with their edges.
use Rattle.std.specs.Prelude.{◌<◌, ◌≤◌, ◌^◌, ◌==◌, ◌%◌, ℕ, ℤ, List, length, map, filter}
use Rattle.std.specs.List.{All, range_with_len, sum_by}
use Rattle.std.specs.List.Sorted.{IsStrictlyIncreasing}
use Rattle.graph.specs.declared.vertex.Edge.{Edge}
use Rattle.graph.specs.declared.vertex.TheConstants.{MAX_VERTICES, MAX_EDGES}
use Rattle.graph.specs.declared.vertex.Vertex.{Vertex}

-- a vertex with its value and its edges, each of which is its target and its value
pub record Entry : Type 0 where
  pub id : ℕ
  pub value : ℤ
  pub edges : List (ℕ × ℤ)

abbrev pub entry_of : Vertex → Entry
entry_of vertex = record { id = vertex.id; value = vertex.value; edges = vertex.edges.items }

abbrev pub entries_of : List Vertex → List Entry
entries_of vertices = map entry_of vertices

abbrev pub vertex_id : Vertex → ℕ
vertex_id vertex = vertex.id

abbrev pub id_at : Entry → ℕ
id_at entry = entry.id

abbrev pub ids : List Entry → List ℕ
ids graph = map id_at graph

abbrev pub head_of : Entry → ℕ × ℤ
head_of entry = (entry.id, entry.value)

-- the vertices without their edges
abbrev pub heads : List Entry → List (ℕ × ℤ)
heads graph = map head_of graph

abbrev pub end_of : Edge → ℕ × ℤ
end_of edge = (edge.target, edge.value)

-- the edges from a vertex, in their order
abbrev pub edges_from : List Edge → ℕ → List (ℕ × ℤ)
edges_from edges id = map end_of (filter (λ edge. edge.from == id) edges)

-- the number is in the range of a signed number of 64 bits
abbrev pub is_in_range : ℕ → Type 0
is_in_range id = id < 2 ^ 63

-- the number of edges of all vertices
abbrev pub edge_count : List Entry → ℕ
edge_count graph = sum_by (λ entry. length entry.edges) graph

-- There are no more vertices and edges than a graph may have.
pub record FitsLimits (graph : List Entry) : Type 0 where
  pub vertices : length graph ≤ MAX_VERTICES
  pub edges : edge_count graph ≤ MAX_EDGES

-- What holds for every graph: the ids rise, and the ids of vertices and targets are in range.
pub record IsProper (graph : List Entry) : Type 0 where
  pub rising : IsStrictlyIncreasing (ids graph)
  pub ids_in_range : All (λ entry. is_in_range entry.id) graph
  pub targets_in_range : All (λ entry. All (λ edge. is_in_range edge.0) entry.edges) graph

-- the vertices of one part: those whose id has this remainder
abbrev pub part_of_graph : ℕ → List Entry → ℕ → List Entry
part_of_graph parts graph part = filter (λ entry. entry.id % parts == part) graph

-- the parts of a graph, in order
abbrev pub parts_of : ℕ → List Entry → List (List Entry)
parts_of parts graph = map (part_of_graph parts graph) (range_with_len 0 parts)
