-- The meaning of one line of an edge list.
use Rattle.std.specs.Prelude.{ℕ, ℤ, pos, Bool, ◌==◌, ◌||◌, List, [], ◌∷◌, slice_index, Option, Some, None, if◌then◌else◌, unwrap_or}
use Rattle.line_text.specs.Fields.{fields}
use Rattle.line_text.specs.Number.{id_of, number_of}
use Rattle.graph.specs.declared.edge_list.line.Form.{Form}
use Rattle.graph.specs.declared.edge_list.line.Line.{Line}
use Rattle.graph.specs.declared.edge_list.line.Line.TheVariants.{BadForm, BadNumber, Blank, Said}

-- a line that begins with `#` or `%` is a comment
abbrev pub is_comment : List ℕ → Bool
is_comment line = (slice_index line 0 == 35) || (slice_index line 0 == 37)

-- an edge, where its ends and its value are numbers
abbrev pub edge_between : Option ℕ → Option ℕ → Option ℤ → Line
edge_between (Some from) (Some target) (Some value) = Said (record { from = from; target = target; value = value })
edge_between _ _ _ = BadNumber

-- the value of every edge, or the field's number
abbrev pub value_in : (weight : Option ℤ) → List ℕ → Option ℤ
value_in (Some weight) field = Some weight
value_in None field = number_of field

-- only two ends: the edge's value is 1 where no other value is given
abbrev pub bare_edge : Form → (from target : List ℕ) → Line
bare_edge form from target =
    if form.needs_value then BadForm else edge_between (id_of from) (id_of target) (Some (unwrap_or form.weight (pos 1)))

-- two ends and a value
abbrev pub valued_edge : Form → (from target value : List ℕ) → Line
valued_edge form from target value =
    if form.takes_value then edge_between (id_of from) (id_of target) (value_in form.weight value) else BadForm

abbrev pub line_of_fields : Form → List (List ℕ) → Line
line_of_fields form [] = Blank
line_of_fields form (from ∷ target ∷ []) = bare_edge form from target
line_of_fields form (from ∷ target ∷ value ∷ []) = valued_edge form from target value
line_of_fields form _ = BadForm

abbrev pub line_of : Form → List ℕ → Line
line_of form line = if is_comment line then Blank else line_of_fields form (fields line)
