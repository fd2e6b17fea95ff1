-- What is read of a text: the vertices and edges that its lines declare, and the graph.
use Rattle.std.specs.Prelude.{◌≡◌, ℕ, List, map}
use Rattle.std.specs.List.Sorted.{IsPermutation, IsStrictlyIncreasing}
use Rattle.graph.specs.declared.collect.Collected.{Collected}
use Rattle.graph.specs.declared.line.Line.{Line}
use Rattle.graph.specs.inside.Collected.{CanBeSaid, bare}
use Rattle.graph.specs.Said.{all_declared, all_edges}
use Rattle.graph.specs.Entry.{Entry, entries_of, ids}
use Rattle.graph.specs.Graph.{IsGraphText, IsWithinLimits}

-- the vertices that the lines declare, by rising id, and their edges, in their order
pub record AreSorted (lines : List Line) (collected : Collected) : Type 0 where
  pub can : CanBeSaid lines
  pub vertices : IsPermutation (map bare (all_declared lines)) (entries_of collected.vertices.items)
  pub rising : IsStrictlyIncreasing (ids (entries_of collected.vertices.items))
  pub edges : collected.edges.items ≡ all_edges lines

-- the text means this graph, and is within the limits
pub record AreRead (text : List ℕ) (graph : List Entry) : Type 0 where
  pub means : IsGraphText text graph
  pub within : IsWithinLimits text

-- the text means no graph, or is beyond the limits
abbrev pub ReadsNoGraph : List ℕ → Type 0
ReadsNoGraph text = (graph : List Entry) → IsGraphText text graph → ¬ IsWithinLimits text
