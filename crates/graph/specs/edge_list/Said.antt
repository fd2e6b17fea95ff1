-- The edges of a text's lines.
use Rattle.std.specs.Prelude.{ℕ, Bool, true, false, List, [], ◌∷◌, ◌==◌, map, if◌then◌else◌}
use Rattle.std.specs.List.{flat_map}
use Rattle.std.specs.Str.Lines.{lines}
use Rattle.graph.specs.declared.vertex.Edge.{Edge}
use Rattle.graph.specs.declared.edge_list.line.Form.{Form}
use Rattle.graph.specs.declared.edge_list.line.Line.{Line}
use Rattle.graph.specs.declared.edge_list.line.Line.TheVariants.{Blank, Said}
use Rattle.graph.specs.edge_list.Line.{line_of}

-- the reverse edge
abbrev pub back : Edge → Edge
back edge = record { from = edge.target; target = edge.from; value = edge.value }

-- an edge, and its reverse where each edge is for both directions; an edge from a vertex to itself is there once
abbrev pub both_of : (both_ways : Bool) → Edge → List Edge
both_of both_ways edge = if both_ways then (if edge.from == edge.target then edge ∷ [] else edge ∷ back edge ∷ []) else edge ∷ []

-- the edges of a line
abbrev pub edges_of : (both_ways : Bool) → Line → List Edge
edges_of both_ways (Said edge) = both_of both_ways edge
edges_of both_ways _ = []

-- the meanings of a text's lines
abbrev pub lines_of : Form → List ℕ → List Line
lines_of form text = map (line_of form) (lines text)

-- the edges of all lines, in their order
abbrev pub all_edges : (both_ways : Bool) → List Line → List Edge
all_edges both_ways said = flat_map (edges_of both_ways) said

-- the line is blank, a comment or an edge
abbrev pub is_good : Line → Bool
is_good Blank = true
is_good (Said edge) = true
is_good _ = false
