-- The input that a text means.
use Rattle.std.specs.Prelude.{◌≡◌, ℕ, pos, true, List, [], ◌∷◌, unwrap_or}
use Rattle.std.specs.Option.{option_to_list}
use Rattle.std.specs.List.{All}
use Rattle.verified.specs.declared.call.CallInput.{CallInput}
use Rattle.call_lines.specs.declared.input.Input.{Input}
use Rattle.call_lines.specs.declared.input_line.Line.{Line}
use Rattle.verified.specs.Aggregators.{aggregator_starts}
use Rattle.call_lines.specs.InputSays.{AreInput, lines_of, is_good, all_ids, all_supersteps, all_counts, all_values, all_messages, all_edges, all_aggregators, aggregators_after}

-- the first value of a list, or a default
abbrev pub said_or : {A : Type 0} → A → List A → A
said_or other [] = other
said_or other (said ∷ more) = said

-- The text means this input. Its lines are those of an input. The id, the superstep, the count and the value are the
-- declared ones, or else 0, 0, 1 and 0. Messages and edges are in the order of their lines. Each aggregator has the value
-- that is declared last, or else its start.
pub record Means (text : List ℕ) (input : CallInput) : Type 0 where
  pub are_input : AreInput (lines_of text)
  pub id : input.id ≡ said_or 0 (all_ids (lines_of text))
  pub superstep : input.superstep ≡ said_or 0 (all_supersteps (lines_of text))
  pub count : input.count ≡ said_or 1 (all_counts (lines_of text))
  pub value : input.value ≡ said_or (pos 0) (all_values (lines_of text))
  pub messages : input.messages.now ≡ all_messages (lines_of text)
  pub edges : input.edges.now ≡ all_edges (lines_of text)
  pub aggregated : input.aggregated ≡ aggregators_after aggregator_starts (all_aggregators (lines_of text))

-- ---- an input as it is stored

-- the stored input is what the lines declare
pub record Says (lines : List Line) (input : Input) : Type 0 where
  pub good : All (λ line. is_good line ≡ true) lines
  pub id : option_to_list input.id ≡ all_ids lines
  pub superstep : option_to_list input.superstep ≡ all_supersteps lines
  pub count : option_to_list input.count ≡ all_counts lines
  pub value : option_to_list input.value ≡ all_values lines
  pub messages : input.messages.items ≡ all_messages lines
  pub edges : input.edges.items ≡ all_edges lines
  pub aggregated : input.aggregated ≡ aggregators_after aggregator_starts (all_aggregators lines)

-- the input of the call is the stored one, with the default 1 for a count and 0 for the others
pub record Lends (kept : Input) (input : CallInput) : Type 0 where
  pub id : input.id ≡ unwrap_or kept.id 0
  pub superstep : input.superstep ≡ unwrap_or kept.superstep 0
  pub count : input.count ≡ unwrap_or kept.count 1
  pub value : input.value ≡ unwrap_or kept.value (pos 0)
  pub messages : input.messages.now ≡ kept.messages.items
  pub edges : input.edges.now ≡ kept.edges.items
  pub aggregated : input.aggregated ≡ kept.aggregated

-- all values of the two inputs are the same
pub record SameInput (a b : CallInput) : Type 0 where
  pub id : a.id ≡ b.id
  pub superstep : a.superstep ≡ b.superstep
  pub count : a.count ≡ b.count
  pub value : a.value ≡ b.value
  pub messages : a.messages.now ≡ b.messages.now
  pub edges : a.edges.now ≡ b.edges.now
  pub aggregated : a.aggregated ≡ b.aggregated
