-- How a line is added to the stored input.
use Rattle.std.specs.Prelude.{◌≡◌, Bool, true, ◌++◌, is_none}
use Rattle.std.specs.Option.{option_to_list}
use Rattle.call_lines.specs.declared.input.Input.{Input}
use Rattle.call_lines.specs.declared.input_line.Line.{Line}
use Rattle.call_lines.specs.declared.input_line.Line.TheVariants.{Id, Superstep, Count, Value}
use Rattle.call_lines.specs.InputSays.{is_good, id_by, superstep_by, count_by, value_by, message_by, edge_by, aggregator_by, aggregators_after}

-- the declaration of a good line was added to the stored input
pub record Adds (line : Line) (old new : Input) : Type 0 where
  pub good : is_good line ≡ true
  pub id : option_to_list new.id ≡ option_to_list old.id ++ id_by line
  pub superstep : option_to_list new.superstep ≡ option_to_list old.superstep ++ superstep_by line
  pub count : option_to_list new.count ≡ option_to_list old.count ++ count_by line
  pub value : option_to_list new.value ≡ option_to_list old.value ++ value_by line
  pub messages : new.messages.items ≡ old.messages.items ++ message_by line
  pub edges : new.edges.items ≡ old.edges.items ++ edge_by line
  pub aggregated : new.aggregated ≡ aggregators_after old.aggregated (aggregator_by line)

-- the line may be added: it is good, and what may be declared once was not declared
abbrev pub fits : Line → Input → Bool
fits (Id id) input = is_none input.id
fits (Superstep superstep) input = is_none input.superstep
fits (Count count) input = is_none input.count
fits (Value value) input = is_none input.value
fits line input = is_good line
