-- The meaning of one line.
use Rattle.std.specs.Prelude.{◌==◌, ℕ, ℤ, Bool, true, false, List, [], ◌∷◌, slice_index, Option, Some, codes, if◌then◌else◌}
use Rattle.std.specs.Str.{bytes_eq}
use Rattle.line_text.specs.Fields.{fields}
use Rattle.line_text.specs.Number.{id_of, number_of}
use Rattle.graph.specs.declared.line.Line.{Line}
use Rattle.graph.specs.declared.line.Line.TheVariants.{Blank, Vertex, Edge, BadForm, BadNumber}

abbrev pub vertex_line : Option ℕ → Option ℤ → Line
vertex_line (Some id) (Some value) = Vertex id value
vertex_line _ _ = BadNumber

abbrev pub edge_line : Option ℕ → Option ℕ → Option ℤ → Line
edge_line (Some from) (Some target) (Some value) = Edge from target value
edge_line _ _ _ = BadNumber

-- `v ID VALUE`
abbrev pub vertex_fields : List ℕ → List ℕ → List ℕ → Line
vertex_fields name id value = if bytes_eq name (codes "v") then vertex_line (id_of id) (number_of value) else BadForm

-- `e FROM TO VALUE`
abbrev pub edge_fields : List ℕ → List ℕ → List ℕ → List ℕ → Line
edge_fields name from target value =
    if bytes_eq name (codes "e") then edge_line (id_of from) (id_of target) (number_of value) else BadForm

-- the meaning of fields: blank where there are none, `v ID VALUE`, or `e FROM TO VALUE`
abbrev pub line_of_fields : List (List ℕ) → Line
line_of_fields [] = Blank
line_of_fields (name ∷ id ∷ value ∷ []) = vertex_fields name id value
line_of_fields (name ∷ from ∷ target ∷ value ∷ []) = edge_fields name from target value
line_of_fields _ = BadForm

-- a line that begins with `#` is a comment
abbrev pub line_of : List ℕ → Line
line_of line = if slice_index line 0 == 35 then Blank else line_of_fields (fields line)

-- the line is blank, a vertex or an edge
abbrev pub is_good : Line → Bool
is_good Blank = true
is_good (Vertex id value) = true
is_good (Edge from target value) = true
is_good BadForm = false
is_good BadNumber = false
