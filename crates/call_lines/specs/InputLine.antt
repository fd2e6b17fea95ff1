-- The meaning of one line of an input.
use Rattle.std.specs.Prelude.{ℕ, ◌-◌, ◌^◌, ◌==◌, nat_le, ℤ, List, [], ◌∷◌, slice_index, Option, Some, None, codes, if◌then◌else◌}
use Rattle.std.specs.Str.{bytes_eq}
use Rattle.line_text.specs.Fields.{fields}
use Rattle.line_text.specs.Number.{id_of, number_of}
use Rattle.call_lines.specs.declared.input_line.Line.{Line}
use Rattle.call_lines.specs.declared.input_line.Line.TheVariants.{Skipped, Id, Superstep, Count, Value, Message, Edge, Aggregate, Bad}

-- a number, if it is at most this
abbrev pub at_most : ℕ → Option ℕ → Option ℕ
at_most most None = None
at_most most (Some number) = if nat_le number most then Some number else None

-- the number of 32 bits that decimal digits write
abbrev pub u32_of : List ℕ → Option ℕ
u32_of text = at_most (2 ^ 32 - 1) (id_of text)

-- the meaning of a number; a field that is no number is bad
abbrev pub says_number : {N : Type 0} → (N → Line) → Option N → Line
says_number says None = Bad
says_number says (Some number) = says number

-- a name and one number
abbrev pub short_line : List ℕ → List ℕ → Line
short_line name number =
    if bytes_eq name (codes "id") then says_number Id (id_of number)
    else if bytes_eq name (codes "superstep") then says_number Superstep (u32_of number)
    else if bytes_eq name (codes "count") then says_number Count (u32_of number)
    else if bytes_eq name (codes "value") then says_number Value (number_of number)
    else if bytes_eq name (codes "message") then says_number Message (number_of number)
    else Bad

abbrev pub edge_line : Option ℕ → Option ℤ → Line
edge_line (Some target) (Some value) = Edge target value
edge_line _ _ = Bad

abbrev pub aggregate_line : Option ℕ → Option ℤ → Line
aggregate_line (Some aggregator) (Some value) = Aggregate aggregator value
aggregate_line _ _ = Bad

-- a name and two numbers
abbrev pub long_line : List ℕ → List ℕ → List ℕ → Line
long_line name first second =
    if bytes_eq name (codes "edge") then edge_line (id_of first) (number_of second)
    else if bytes_eq name (codes "aggregate") then aggregate_line (u32_of first) (number_of second)
    else Bad

-- the meaning of fields: skipped where there are none, or a name and its numbers
abbrev pub line_of_fields : List (List ℕ) → Line
line_of_fields [] = Skipped
line_of_fields (name ∷ number ∷ []) = short_line name number
line_of_fields (name ∷ first ∷ second ∷ []) = long_line name first second
line_of_fields _ = Bad

-- a line that begins with `#` is a comment
abbrev pub line_of : List ℕ → Line
line_of line = if slice_index line 0 == 35 then Skipped else line_of_fields (fields line)
