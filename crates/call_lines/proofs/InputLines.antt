-- One line after another: what is kept of the lines so far.
use Rattle.std.proofs.Common.{◌≡◌, ℕ, ◌+◌, ◌≤◌, List, [], ◌∷◌, ◌++◌, length, take, drop, Option, Some, None, true, false, refl, ap, sym, ◌∙◌, arith, length-append}
use Rattle.std.specs.Prelude.{is_none}
use Rattle.std.specs.List.{enumerate_from, flat_map}
use Rattle.std.specs.Option.{option_to_list}
use Rattle.std.specs.Str.Lines.{lines}
use Rattle.std.proofs.lemmas.Bool.{both_ways}
use Rattle.std.proofs.lemmas.List.{append-nil, take_more, take-append-drop, get_or_append_left, take_all}
use Rattle.std.proofs.lemmas.List.Elements.{All-push, All-contains, Contains-push}
use Rattle.std.proofs.lemmas.Grind.{flat_map-append, fold-append}
use Rattle.call_lines.specs.declared.input.Input.{Input}
use Rattle.call_lines.specs.declared.input.InputFault.{InputFault}
use Rattle.call_lines.specs.declared.input.InputFault.TheVariants as fault
use Rattle.call_lines.specs.declared.input_line.Line.{Line}
use Rattle.call_lines.specs.declared.input_line.Line.TheVariants.{Skipped, Id, Superstep, Count, Value, Message, Edge, Aggregate, Bad}
use Rattle.call_lines.specs.InputLine.{line_of}
use Rattle.verified.specs.Aggregators.{aggregator_starts}
use Rattle.call_lines.specs.InputSays.{AreInput, lines_of, is_good, set_aggregator, aggregators_after, all_ids, all_supersteps, all_counts, all_values, all_aggregators, id_by, superstep_by, count_by, value_by, message_by, edge_by, aggregator_by}
use Rattle.call_lines.specs.Input.{Says}
use Rattle.call_lines.specs.inside.Adding.{Adds, fits}
use Rattle.call_lines.specs.InputFaults.{IsFirstBad, IsInputFault}
use Rattle.call_lines.proofs.TextLines.{Comes, none_left}

-- ---- one line more

flat_map-push : {X A : Type 0} (f : X → List A) (xs : List X) (x : X) → flat_map f (xs ++ x ∷ []) ≡ flat_map f xs ++ f x
flat_map-push f xs x = flat_map-append f xs (x ∷ []) ∙ ap (λ ys. flat_map f xs ++ ys) (append-nil (f x))

said_push : {A : Type 0} (f : Line → List A) (before : List Line) (line : Line) (old new : List A) → old ≡ flat_map f before → new ≡ old ++ f line
    → new ≡ flat_map f (before ++ line ∷ [])
said_push f before line old new says adds = adds ∙ ap (λ xs. xs ++ f line) says ∙ sym (flat_map-push f before line)

pub says_push : (before : List Line) (line : Line) (old new : Input) → Says before old → Adds line old new → Says (before ++ line ∷ []) new
says_push before line old new says adds = record {
  good = All-push (λ said. is_good said ≡ true) before line says.good adds.good;
  id = said_push id_by before line (option_to_list old.id) (option_to_list new.id) says.id adds.id;
  superstep = said_push superstep_by before line (option_to_list old.superstep) (option_to_list new.superstep) says.superstep adds.superstep;
  count = said_push count_by before line (option_to_list old.count) (option_to_list new.count) says.count adds.count;
  value = said_push value_by before line (option_to_list old.value) (option_to_list new.value) says.value adds.value;
  messages = said_push message_by before line old.messages.items new.messages.items says.messages adds.messages;
  edges = said_push edge_by before line old.edges.items new.edges.items says.edges adds.edges;
  aggregated =
      adds.aggregated
      ∙ ap (λ aggregators. aggregators_after aggregators (aggregator_by line)) says.aggregated
      ∙ sym (fold-append set_aggregator aggregator_starts (all_aggregators before) (aggregator_by line))
      ∙ ap (λ said. aggregators_after aggregator_starts said) (sym (flat_map-push aggregator_by before line));
}

-- ---- what may be said once

one : {A : Type 0} (kept : Option A) (said : List A) → option_to_list kept ≡ said → length said ≤ 1
one None said e = rw (sym e) (omega arith)
one (Some x) said e = rw (sym e) (omega arith)

pub are_input : (lines : List Line) (input : Input) → Says lines input → AreInput lines
are_input lines input says = record {
  good = says.good;
  one_id = one input.id (all_ids lines) says.id;
  one_superstep = one input.superstep (all_supersteps lines) says.superstep;
  one_count = one input.count (all_counts lines) says.count;
  one_value = one input.value (all_values lines) says.value;
}

-- one more than one
twice : {A : Type 0} (f : Line → List A) (before : List Line) (line : Line) (kept : Option A) (x : A) → is_none kept ≡ false → f line ≡ x ∷ []
    → option_to_list kept ≡ flat_map f before → length (flat_map f (before ++ line ∷ [])) ≤ 1 → ⊥
twice f before line None x some is says few = absurd (both_ways true some refl)
twice f before line (Some y) x some is says few =
    let grown : flat_map f (before ++ line ∷ []) ≡ (y ∷ []) ++ x ∷ [] = flat_map-push f before line ∙ ap (λ xs. flat_map f before ++ xs) is ∙ ap (λ xs. xs ++ x ∷ []) (sym says) in
    let long : length (flat_map f (before ++ line ∷ [])) ≡ 2 = ap length grown in
    omega (arith, long, few)

bad_line : (before : List Line) (line : Line) → is_good line ≡ false → AreInput (before ++ line ∷ []) → ⊥
bad_line before line bad are = both_ways (is_good line) bad (All-contains (λ said. is_good said ≡ true) (before ++ line ∷ []) line are.good (Contains-push before line))

-- what does not fit cannot be added
pub no_push : (before : List Line) (line : Line) (old : Input) → fits line old ≡ false → Says before old → AreInput (before ++ line ∷ []) → ⊥
no_push before Skipped old unfit says are = bad_line before Skipped unfit are
no_push before (Id id) old unfit says are = twice id_by before (Id id) old.id id unfit refl says.id are.one_id
no_push before (Superstep superstep) old unfit says are = twice superstep_by before (Superstep superstep) old.superstep superstep unfit refl says.superstep are.one_superstep
no_push before (Count count) old unfit says are = twice count_by before (Count count) old.count count unfit refl says.count are.one_count
no_push before (Value value) old unfit says are = twice value_by before (Value value) old.value value unfit refl says.value are.one_value
no_push before (Message value) old unfit says are = bad_line before (Message value) unfit are
no_push before (Edge target value) old unfit says are = bad_line before (Edge target value) unfit are
no_push before (Aggregate aggregator value) old unfit says are = bad_line before (Aggregate aggregator value) unfit are
no_push before Bad old unfit says are = bad_line before Bad unfit are

-- ---- the lines of a text

few_front : {A : Type 0} (f : Line → List A) (front rest : List Line) → length (flat_map f (front ++ rest)) ≤ 1 → length (flat_map f front) ≤ 1
few_front f front rest few = omega (arith, few, ap length (flat_map-append f front rest), length-append (flat_map f front) (flat_map f rest))

-- the first lines of an input are those of an input
pub front_is_input : (front rest : List Line) → AreInput (front ++ rest) → AreInput front
front_is_input front rest are = record {
  good = λ k d below. rw get_or_append_left at (are.good k d (omega (arith, length-append front rest)));
  one_id = few_front id_by front rest are.one_id;
  one_superstep = few_front superstep_by front rest are.one_superstep;
  one_count = few_front count_by front rest are.one_count;
  one_value = few_front value_by front rest are.one_value;
}

taken : (lines : List Line) (read : ℕ) (said : Line) → Comes lines read said → take (read + 1) lines ≡ take read lines ++ said ∷ []
taken lines read said comes = take_more lines read said comes.short ∙ ap (λ l. take read lines ++ l ∷ []) comes.stands

pub says_next : (lines : List Line) (read : ℕ) (said : Line) (old new : Input) → Comes lines read said → Says (take read lines) old
    → Adds said old new → Says (take (read + 1) lines) new
says_next lines read said old new comes says adds = rw (taken lines read said comes) (says_push (take read lines) said old new says adds)

-- the first line that does not fit is the first bad one
pub first_bad : (lines : List Line) (read number : ℕ) (said : Line) (old : Input) → number ≡ read + 1 → Comes lines read said
    → Says (take read lines) old → fits said old ≡ false → IsFirstBad lines number
first_bad lines read number said old counted comes says unfit = record {
  before = read;
  counted = counted;
  within = comes.short;
  good = are_input (take read lines) old says;
  bad = λ are. no_push (take read lines) said old unfit says (rw (counted, taken lines read said comes) at are);
}

-- a line that was not added is the first bad one, where memory did not run out
pub refused_next : (lines : List Line) (read index : ℕ) (said : Line) (old : Input) (told : InputFault) → index ≡ read → Comes lines read said
    → Says (take read lines) old → (((told ≡ fault.OutOfMemory) → ⊥) → (told ≡ fault.Line (index + 1)) × (fits said old ≡ false))
    → IsInputFault lines told
refused_next lines read index said old fault.OutOfMemory counted comes says refused = tt
refused_next lines read index said old (fault.Line number) counted comes says refused =
    let why = refused (λ e. absurd (cc)) in
    let same : number ≡ index + 1 = cc in
    first_bad lines read number said old (omega (arith, same, counted)) comes says why.1

-- all lines were read
pub says_all : (text : List ℕ) (read : ℕ) (input : Input) → Says (take read (lines_of text)) input
    → read ≡ length (enumerate_from 0 (lines text)) → Says (lines_of text) input
says_all text read input says all =
    let past : length (lines_of text) ≤ read = none_left line_of text read all in
    rw take_all at says

-- lines of an input have no first bad one
pub none_bad : (lines : List Line) (told : InputFault) → AreInput lines → IsInputFault lines told → told ≡ fault.OutOfMemory
none_bad lines fault.OutOfMemory are refused = refl
none_bad lines (fault.Line number) are refused =
    absurd (refused.bad (front_is_input (take number lines) (drop number lines) (rw (take-append-drop number lines) are)))
