-- What the lines of an input declare together.
use Rattle.std.specs.Prelude.{◌≡◌, ◌≤◌, ℕ, ℤ, nat_lt, Bool, true, false, List, [], ◌∷◌, map, length, slice_set}
use Rattle.std.specs.List.{All, flat_map, fold}
use Rattle.std.specs.Str.Lines.{lines}
use Rattle.verified.specs.declared.call.TheConstants.{AGGREGATORS}
use Rattle.call_lines.specs.InputLine.{line_of}
use Rattle.call_lines.specs.declared.input_line.Line.{Line}
use Rattle.call_lines.specs.declared.input_line.Line.TheVariants.{Id, Superstep, Count, Value, Message, Edge, Aggregate, Bad}

-- The meanings of the lines of a text, from the top. A line ends with a line feed, with or without a carriage return before
-- it. The last line may have no end.
abbrev pub lines_of : List ℕ → List Line
lines_of text = map line_of (lines text)

-- ---- what one line declares of each kind

abbrev pub id_by : Line → List ℕ
id_by (Id id) = id ∷ []
id_by _ = []

abbrev pub superstep_by : Line → List ℕ
superstep_by (Superstep superstep) = superstep ∷ []
superstep_by _ = []

abbrev pub count_by : Line → List ℕ
count_by (Count count) = count ∷ []
count_by _ = []

abbrev pub value_by : Line → List ℤ
value_by (Value value) = value ∷ []
value_by _ = []

abbrev pub message_by : Line → List ℤ
message_by (Message value) = value ∷ []
message_by _ = []

abbrev pub edge_by : Line → List (ℕ × ℤ)
edge_by (Edge target value) = (target, value) ∷ []
edge_by _ = []

abbrev pub aggregator_by : Line → List (ℕ × ℤ)
aggregator_by (Aggregate aggregator value) = (aggregator, value) ∷ []
aggregator_by _ = []

-- the line is not bad, and its aggregator exists
abbrev pub is_good : Line → Bool
is_good Bad = false
is_good (Aggregate aggregator value) = nat_lt aggregator AGGREGATORS
is_good _ = true

-- ---- what the lines declare of each kind

abbrev pub all_ids : List Line → List ℕ
all_ids lines = flat_map id_by lines

abbrev pub all_supersteps : List Line → List ℕ
all_supersteps lines = flat_map superstep_by lines

abbrev pub all_counts : List Line → List ℕ
all_counts lines = flat_map count_by lines

abbrev pub all_values : List Line → List ℤ
all_values lines = flat_map value_by lines

abbrev pub all_messages : List Line → List ℤ
all_messages lines = flat_map message_by lines

abbrev pub all_edges : List Line → List (ℕ × ℤ)
all_edges lines = flat_map edge_by lines

abbrev pub all_aggregators : List Line → List (ℕ × ℤ)
all_aggregators lines = flat_map aggregator_by lines

abbrev pub set_aggregator : List ℤ → ℕ × ℤ → List ℤ
set_aggregator aggregators said = slice_set aggregators said.0 said.1

-- the aggregators after these declarations, of which the last one for each counts
abbrev pub aggregators_after : List ℤ → List (ℕ × ℤ) → List ℤ
aggregators_after aggregators said = fold set_aggregator aggregators said

-- The lines are those of an input: each is good, and what may be declared once is not declared twice.
pub record AreInput (lines : List Line) : Type 0 where
  pub good : All (λ line. is_good line ≡ true) lines
  pub one_id : length (all_ids lines) ≤ 1
  pub one_superstep : length (all_supersteps lines) ≤ 1
  pub one_count : length (all_counts lines) ≤ 1
  pub one_value : length (all_values lines) ≤ 1
