-- What is lent for a call is what the text means, and a text means one input.
use Rattle.std.proofs.Common.{◌≡◌, ℕ, List, Option, Some, None, ap, sym, ◌∙◌}
use Rattle.std.specs.Prelude.{unwrap_or}
use Rattle.std.specs.Option.{option_to_list}
use Rattle.verified.specs.declared.call.CallInput.{CallInput}
use Rattle.call_lines.specs.declared.input.Input.{Input}
use Rattle.call_lines.specs.InputSays.{lines_of}
use Rattle.call_lines.specs.Input.{Lends, Means, SameInput, Says, said_or}
use Rattle.call_lines.proofs.InputLines.{are_input}

said_of : {A : Type 0} (other : A) (kept : Option A) (said : List A) → option_to_list kept ≡ said → unwrap_or kept other ≡ said_or other said
said_of other None said e = ap (λ xs. said_or other xs) e
said_of other (Some x) said e = ap (λ xs. said_or other xs) e

pub lent_means : (text : List ℕ) (kept : Input) (given : CallInput) → Says (lines_of text) kept → Lends kept given → Means text given
lent_means text kept given says lends = record {
  are_input = are_input (lines_of text) kept says;
  id = lends.id ∙ said_of 0 kept.id _ says.id;
  superstep = lends.superstep ∙ said_of 0 kept.superstep _ says.superstep;
  count = lends.count ∙ said_of 1 kept.count _ says.count;
  value = lends.value ∙ said_of _ kept.value _ says.value;
  messages = lends.messages ∙ says.messages;
  edges = lends.edges ∙ says.edges;
  aggregated = lends.aggregated ∙ says.aggregated;
}

-- a text means one input
pub same_input : (text : List ℕ) (a b : CallInput) → Means text a → Means text b → SameInput a b
same_input text a b first second = record {
  id = first.id ∙ sym second.id;
  superstep = first.superstep ∙ sym second.superstep;
  count = first.count ∙ sym second.count;
  value = first.value ∙ sym second.value;
  messages = first.messages ∙ sym second.messages;
  edges = first.edges ∙ sym second.edges;
  aggregated = first.aggregated ∙ sym second.aggregated;
}
