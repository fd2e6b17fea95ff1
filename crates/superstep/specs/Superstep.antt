-- A superstep (Pregel 2010, 2). The outcomes of the module's calls are a function of their inputs.
use Rattle.std.specs.Prelude.{ℕ, ℤ, pos, ◌+◌, Bool, true, not, List, [], map, filter, count_by, length, if◌then◌else◌}
use Rattle.std.specs.List.{flat_map, list_any, sum_by}
use Rattle.std.specs.Ordering.{int_eq}
use Rattle.semantics.specs.Call.{Outcome}
use Rattle.semantics.specs.Outcomes.{Given}
use Rattle.job_state.specs.State.{capped}
use Rattle.superstep.specs.Folds.{aggregated}
use Rattle.superstep.specs.Snapshot.{Row, Snapshot, is_called, row_ids}

-- the input of a vertex's call
abbrev pub given_to : ℕ → Snapshot → Row → Given
given_to s before row = record {
  id = row.id;
  superstep = s;
  count = length before.rows;
  value = row.value;
  messages = row.inbox;
  edges = row.edges;
  aggregated = before.aggregates;
}

-- the outcome of a vertex that is not called: it is halted, and stays as it is
abbrev pub idle : Row → Outcome
idle row = record { value = row.value; sends = []; contributions = []; halted = true; units = 0 }

-- the outcome of a vertex
abbrev pub left_by : (Given → Outcome) → ℕ → Snapshot → Row → Outcome
left_by outcomes s before row = if is_called row then outcomes (given_to s before row) else idle row

-- the outcomes of all vertices, by rising id
abbrev pub all_left : (Given → Outcome) → ℕ → Snapshot → List Outcome
all_left outcomes s before = map (left_by outcomes s before) before.rows

-- whether a message goes to this id
abbrev pub is_sent_to : ℕ → ℤ × ℤ → Bool
is_sent_to id send = int_eq send.0 (pos id)

-- the messages of a vertex to this id, in the order of sending
abbrev pub sent_to : ℕ → Outcome → List ℤ
sent_to id outcome = map (λ send. send.1) (filter (is_sent_to id) outcome.sends)

-- the messages to this id: those of each vertex, by rising id
abbrev pub messages_to : List Outcome → ℕ → List ℤ
messages_to outcomes id = flat_map (sent_to id) outcomes

-- the number of a vertex's messages that go to none of these ids
abbrev pub dropped_by : List ℕ → Outcome → ℕ
dropped_by ids outcome = count_by (λ send. not (list_any (λ id. is_sent_to id send) ids)) outcome.sends

-- a vertex after the superstep, given the outcomes of all vertices and its own
abbrev pub row_after : List Outcome → Row → Outcome → Row
row_after outcomes row outcome = record {
  id = row.id;
  value = outcome.value;
  edges = row.edges;
  active = not outcome.halted;
  inbox = messages_to outcomes row.id;
}

-- the units of all calls of a superstep
abbrev pub units_left : List Outcome → ℕ
units_left outcomes = sum_by (λ (outcome : Outcome). outcome.units) outcomes

-- the number of messages of these outcomes
abbrev pub sends_left : List Outcome → ℕ
sends_left outcomes = sum_by (λ (outcome : Outcome). length outcome.sends) outcomes

abbrev pub contributions_of : List Outcome → List (ℕ × ℤ)
contributions_of outcomes = flat_map (λ (outcome : Outcome). outcome.contributions) outcomes

-- the snapshot after the superstep
abbrev pub superstep : (Given → Outcome) → ℕ → Snapshot → Snapshot
superstep outcomes s before =
    let left = all_left outcomes s before in
    record {
      rows = map (λ row. row_after left row (left_by outcomes s before row)) before.rows;
      aggregates = aggregated (contributions_of left);
      units = capped (before.units + units_left left);
      dropped = capped (before.dropped + sum_by (dropped_by (row_ids before)) left);
    }
