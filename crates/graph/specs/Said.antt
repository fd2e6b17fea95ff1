-- The vertices and edges that lines declare.
use Rattle.std.specs.Prelude.{ℕ, ℤ, List, [], ◌∷◌, map}
use Rattle.std.specs.List.{flat_map}
use Rattle.std.specs.Str.Lines.{lines}
use Rattle.graph.specs.Line.{line_of}
use Rattle.graph.specs.declared.line.Line.{Line}
use Rattle.graph.specs.declared.line.Line.TheVariants as line
use Rattle.graph.specs.declared.vertex.Edge.{Edge}

-- The meanings of the lines of a text, from the top. A line ends with a line feed, with or without a carriage return before
-- it. The last line may have no end.
abbrev pub lines_of : List ℕ → List Line
lines_of text = map line_of (lines text)

-- the vertex that a line declares, as its id and its value
abbrev pub declared_by : Line → List (ℕ × ℤ)
declared_by (line.Vertex id value) = (id, value) ∷ []
declared_by _ = []

-- the edge that a line declares
abbrev pub said_by : Line → List Edge
said_by (line.Edge from target value) = record { from = from; target = target; value = value } ∷ []
said_by _ = []

abbrev pub all_declared : List Line → List (ℕ × ℤ)
all_declared lines = flat_map declared_by lines

abbrev pub all_edges : List Line → List Edge
all_edges lines = flat_map said_by lines
