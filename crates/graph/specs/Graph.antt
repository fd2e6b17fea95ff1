-- The graph that a text means.
use Rattle.std.specs.Prelude.{◌≡◌, ◌≤◌, ℕ, true, List, length}
use Rattle.std.specs.List.{All, Contains}
use Rattle.std.specs.List.Sorted.{IsPermutation, IsStrictlyIncreasing}
use Rattle.graph.specs.declared.line.Line.{Line}
use Rattle.graph.specs.declared.vertex.TheConstants.{MAX_VERTICES, MAX_EDGES}
use Rattle.graph.specs.Line.{is_good}
use Rattle.graph.specs.Said.{lines_of, all_declared, all_edges}
use Rattle.graph.specs.Entry.{Entry, ids, heads, edges_from}

-- The lines declare this graph:
-- * each line is blank, a vertex or an edge;
-- * the vertices are those that the lines declare, by rising id, so no id is declared twice;
-- * a vertex has the edges from it in the order of their lines;
-- * both ends of each edge are declared, before or after it.
pub record IsSaid (lines : List Line) (graph : List Entry) : Type 0 where
  pub good : All (λ line. is_good line ≡ true) lines
  pub rising : IsStrictlyIncreasing (ids graph)
  pub vertices : IsPermutation (all_declared lines) (heads graph)
  pub edges : All (λ entry. entry.edges ≡ edges_from (all_edges lines) entry.id) graph
  pub from_declared : All (λ edge. Contains (ids graph) edge.from) (all_edges lines)
  pub target_declared : All (λ edge. Contains (ids graph) edge.target) (all_edges lines)

-- The lines declare no more vertices and edges than a graph may have.
pub record AreWithinLimits (lines : List Line) : Type 0 where
  pub vertices : length (all_declared lines) ≤ MAX_VERTICES
  pub edges : length (all_edges lines) ≤ MAX_EDGES

-- the text means this graph
abbrev pub IsGraphText : List ℕ → List Entry → Type 0
IsGraphText text graph = IsSaid (lines_of text) graph

abbrev pub IsWithinLimits : List ℕ → Type 0
IsWithinLimits text = AreWithinLimits (lines_of text)
