-- The vertices and edges collected of lines.
use Rattle.std.specs.Prelude.{◌≡◌, ◌<◌, ◌≤◌, ◌++◌, ◌∷◌, ℕ, ℤ, true, List, [], map, length}
use Rattle.std.specs.List.{All}
use Rattle.graph.specs.declared.collect.Collected.{Collected}
use Rattle.graph.specs.declared.line.Line.{Line}
use Rattle.graph.specs.declared.vertex.Edge.{Edge}
use Rattle.graph.specs.declared.vertex.TheConstants.{MAX_VERTICES, MAX_EDGES}
use Rattle.graph.specs.Line.{is_good}
use Rattle.graph.specs.Said.{all_declared, all_edges}
use Rattle.graph.specs.Entry.{Entry, entries_of}
use Rattle.graph.specs.Graph.{AreWithinLimits}

-- each line is blank, a vertex or an edge, and there are no more of these than the limits allow
pub record CanBeSaid (lines : List Line) : Type 0 where
  pub good : All (λ line. is_good line ≡ true) lines
  pub within : AreWithinLimits lines

-- a vertex with no edges yet
abbrev pub bare : ℕ × ℤ → Entry
bare head = record { id = head.0; value = head.1; edges = [] }

-- the vertices and the edges are those that the lines declare, in their order
pub record Says (lines : List Line) (collected : Collected) : Type 0 where
  pub can : CanBeSaid lines
  pub vertices : entries_of collected.vertices.items ≡ map bare (all_declared lines)
  pub edges : collected.edges.items ≡ all_edges lines

-- if some lines were collected before, then these lines and this one are collected after
abbrev pub AddsLine : Line → (old new : Collected) → Type 0
AddsLine line old new = (before : List Line) → Says before old → Says (before ++ line ∷ []) new

-- if some lines were collected before, then these lines and this one are no graph's
abbrev pub RefusesLine : Line → Collected → Type 0
RefusesLine line old = (before : List Line) → Says before old → ¬ CanBeSaid (before ++ line ∷ [])

-- there are as many vertices, or edges, as the limits allow
abbrev pub IsFullOfVertices : Collected → Type 0
IsFullOfVertices collected = MAX_VERTICES ≤ length collected.vertices.items

abbrev pub IsFullOfEdges : Collected → Type 0
IsFullOfEdges collected = MAX_EDGES ≤ length collected.edges.items

-- there was room for one vertex, and it was added
pub record AddsVertex (old new : Collected) (vertex : Entry) : Type 0 where
  pub room : length old.vertices.items < MAX_VERTICES
  pub vertices : entries_of new.vertices.items ≡ entries_of old.vertices.items ++ vertex ∷ []
  pub edges : new.edges.items ≡ old.edges.items

-- there was room for one edge, and it was added
pub record AddsEdge (old new : Collected) (edge : Edge) : Type 0 where
  pub room : length old.edges.items < MAX_EDGES
  pub vertices : entries_of new.vertices.items ≡ entries_of old.vertices.items
  pub edges : new.edges.items ≡ old.edges.items ++ edge ∷ []
