-- Adding of edges, one after another.
use Rattle.std.specs.Prelude.{◌≡◌, ◌++◌, List}
use Rattle.graph.specs.declared.vertex.Edge.{Edge}
use Rattle.graph.specs.declared.edge_list.edges.Edges.{Edges}
use Rattle.graph.specs.declared.edge_list.line.Line.{Line}
use Rattle.graph.specs.declared.edge_list.line.Line.TheVariants.{Said}
use Rattle.graph.specs.inside.Ranges.{IsInRange}

-- these edges were appended, and nothing else was changed
pub record Adds (edges : List Edge) (old new : Edges) : Type 0 where
  pub items : new.items.items ≡ old.items.items ++ edges
  pub both_ways : new.both_ways ≡ old.both_ways
  pub most : new.most ≡ old.most

-- the ends of a line's edge are in their range
abbrev pub SaysInRange : Line → Type 0
SaysInRange (Said edge) = IsInRange edge
SaysInRange _ = Unit {0}
