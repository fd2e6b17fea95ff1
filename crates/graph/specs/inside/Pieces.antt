-- What is collected of a text that is cut into pieces at line ends.
use Rattle.std.specs.Prelude.{◌≡◌, ◌≤◌, ℕ, List, length}
use Rattle.std.specs.Borrow.{Bor}
use Rattle.std.specs.List.{AllZip, flat_map}
use Rattle.graph.specs.declared.collect.Collected.{Collected}
use Rattle.graph.specs.declared.line.Line.{Line}
use Rattle.graph.specs.declared.vertex.Edge.{Edge}
use Rattle.graph.specs.declared.vertex.Vertex.{Vertex}
use Rattle.graph.specs.declared.vertex.TheConstants.{MAX_VERTICES, MAX_EDGES}
use Rattle.graph.specs.inside.Collected.{Says}
use Rattle.graph.specs.Said.{lines_of}

abbrev pub piece_lines : Bor (List ℕ) → List Line
piece_lines piece = lines_of piece.now

-- the lines of all pieces, one piece after another
abbrev pub lines_in : List (Bor (List ℕ)) → List Line
lines_in pieces = flat_map piece_lines pieces

abbrev pub piece_vertices : Collected → List Vertex
piece_vertices piece = piece.vertices.items

abbrev pub piece_edges : Collected → List Edge
piece_edges piece = piece.edges.items

-- the vertices, and the edges, of all pieces, one piece after another
abbrev pub vertices_in : List Collected → List Vertex
vertices_in pieces = flat_map piece_vertices pieces

abbrev pub edges_in : List Collected → List Edge
edges_in pieces = flat_map piece_edges pieces

-- what the lines of a piece declare was collected
abbrev pub IsCollected : Bor (List ℕ) → Collected → Type 0
IsCollected piece collected = Says (piece_lines piece) collected

abbrev pub AreCollected : List (Bor (List ℕ)) → List Collected → Type 0
AreCollected pieces collected = AllZip IsCollected pieces collected

-- the vertices and edges of all pieces, which are no more than a graph may have
pub record IsWhole (pieces : List Collected) (whole : Collected) : Type 0 where
  pub vertices : whole.vertices.items ≡ vertices_in pieces
  pub edges : whole.edges.items ≡ edges_in pieces
  pub few_vertices : length whole.vertices.items ≤ MAX_VERTICES
  pub few_edges : length whole.edges.items ≤ MAX_EDGES
