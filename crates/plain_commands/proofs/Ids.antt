-- The ids that an input's lines say are in their range.
use Rattle.std.proofs.Common.{◌≡◌, ◌≤◌, ℕ, ℤ, Bool, true, false, List, [], ◌∷◌, ◌++◌, map, Option, Some, None, if◌then◌else◌, refl, sym, ◌∙◌, subst, arith}
use Rattle.std.specs.Prelude.{nat_le, unwrap_or, codes, ◌&&◌}
use Rattle.std.specs.Option.{option_to_list}
use Rattle.std.specs.List.{AllByRecursion, flat_map}
use Rattle.std.specs.Str.{bytes_eq, all_ascii_digits}
use Rattle.verified.specs.declared.call.CallInput.{CallInput}
use Rattle.line_text.specs.Number.{id_of, number_of}
use Rattle.semantics.specs.Bounded.{HasIds, max_id}
use Rattle.call_lines.specs.declared.input.Input.{Input}
use Rattle.call_lines.specs.declared.input_line.Line.{Line}
use Rattle.call_lines.specs.declared.input_line.Line.TheVariants.{Skipped, Id, Superstep, Count, Value, Message, Edge, Aggregate, Bad}
use Rattle.call_lines.specs.Input.{Lends, Says}
use Rattle.call_lines.specs.InputLine.{line_of, says_number, u32_of, edge_line, aggregate_line, short_line, long_line, line_of_fields}
use Rattle.call_lines.specs.InputSays.{lines_of, id_by, edge_by}
use Rattle.line_text.specs.Fields.{fields, is_filled}
use Rattle.std.specs.Str.Parse.{digits_value}
use Rattle.std.specs.Str.Lines.{lines}
use Rattle.std.proofs.lemmas.Bool.{leb-true}
use Rattle.std.proofs.lemmas.List.Concat.{flat_map-cons}

-- ---- one line

-- an id that the line says is in its range
abbrev IsInRange : Line → Type 0
IsInRange (Id id) = id ≤ max_id
IsInRange (Edge target value) = target ≤ max_id
IsInRange _ = Unit {0}

no_more : (b : Bool) (v n : ℕ) → (if b && nat_le v max_id then Some v else None) ≡ Some n → n ≤ max_id
no_more false v n e = absurd cc
no_more true v n e = by_test (nat_le v max_id) refl e
  where
    by_test : (t : Bool) → nat_le v max_id ≡ t → (if t then Some v else None) ≡ Some n → n ≤ max_id
    by_test true h g = let same : v ≡ n = cc in let most = leb-true v max_id h in omega (arith, same, most)
    by_test false h g = absurd cc

id_in_range : (text : List ℕ) (n : ℕ) → id_of text ≡ Some n → n ≤ max_id
id_in_range text n e = no_more (is_filled text && all_ascii_digits text) (digits_value 10 text) n e

either : (b : Bool) (x y : Line) → IsInRange x → IsInRange y → IsInRange (if b then x else y)
either true x y p q = p
either false x y p q = q

some_id : (o : Option ℕ) → ((n : ℕ) → o ≡ Some n → n ≤ max_id) → IsInRange (says_number Id o)
some_id None h = tt
some_id (Some n) h = h n refl

no_id : {N : Type 0} (says : N → Line) → ((n : N) → IsInRange (says n)) → (o : Option N) → IsInRange (says_number says o)
no_id says h None = tt
no_id says h (Some n) = h n

some_edge : (o : Option ℕ) (v : Option ℤ) → ((n : ℕ) → o ≡ Some n → n ≤ max_id) → IsInRange (edge_line o v)
some_edge None v h = tt
some_edge (Some n) None h = tt
some_edge (Some n) (Some v) h = h n refl

no_edge : (o : Option ℕ) (v : Option ℤ) → IsInRange (aggregate_line o v)
no_edge None v = tt
no_edge (Some n) None = tt
no_edge (Some n) (Some v) = tt

short : (name number : List ℕ) → IsInRange (short_line name number)
short name number =
    either (bytes_eq name (codes "id")) _ _ (some_id (id_of number) (id_in_range number))
    (either (bytes_eq name (codes "superstep")) _ _ (no_id Superstep (λ n. tt) (u32_of number))
    (either (bytes_eq name (codes "count")) _ _ (no_id Count (λ n. tt) (u32_of number))
    (either (bytes_eq name (codes "value")) _ _ (no_id Value (λ n. tt) (number_of number))
    (either (bytes_eq name (codes "message")) _ _ (no_id Message (λ n. tt) (number_of number)) tt))))

long : (name first second : List ℕ) → IsInRange (long_line name first second)
long name first second =
    either (bytes_eq name (codes "edge")) _ _ (some_edge (id_of first) (number_of second) (id_in_range first))
    (either (bytes_eq name (codes "aggregate")) _ _ (no_edge (u32_of first) (number_of second)) tt)

by_fields : (fs : List (List ℕ)) → IsInRange (line_of_fields fs)
by_fields [] = tt
by_fields (a ∷ []) = tt
by_fields (a ∷ b ∷ []) = short a b
by_fields (a ∷ b ∷ c ∷ []) = long a b c
by_fields (a ∷ b ∷ c ∷ d ∷ fs) = tt

in_range : (line : List ℕ) → IsInRange (line_of line)
in_range line = either _ Skipped (line_of_fields (fields line)) tt (by_fields (fields line))

-- ---- all lines

joined : {A : Type 0} (P : A → Type 0) (xs ys : List A) → AllByRecursion P xs → AllByRecursion P ys → AllByRecursion P (xs ++ ys)
joined P [] ys p q = q
joined P (x ∷ xs) ys p q = (p.0, joined P xs ys p.1 q)

abbrev FewId : ℕ → Type 0
FewId id = id ≤ max_id

abbrev FewTarget : ℕ × ℤ → Type 0
FewTarget edge = edge.0 ≤ max_id

line_ids : (line : Line) → IsInRange line → AllByRecursion FewId (id_by line)
line_ids (Id id) h = (h, tt)
line_ids Skipped h = tt
line_ids (Superstep n) h = tt
line_ids (Count n) h = tt
line_ids (Value v) h = tt
line_ids (Message v) h = tt
line_ids (Edge target v) h = tt
line_ids (Aggregate aggregator v) h = tt
line_ids Bad h = tt

line_edges : (line : Line) → IsInRange line → AllByRecursion FewTarget (edge_by line)
line_edges (Edge target v) h = (h, tt)
line_edges Skipped h = tt
line_edges (Id id) h = tt
line_edges (Superstep n) h = tt
line_edges (Count n) h = tt
line_edges (Value v) h = tt
line_edges (Message v) h = tt
line_edges (Aggregate aggregator v) h = tt
line_edges Bad h = tt

all_along : {A : Type 0} (P : A → Type 0) (says : Line → List A) → ((line : Line) → IsInRange line → AllByRecursion P (says line)) → (ls : List (List ℕ)) → AllByRecursion P (flat_map says (map line_of ls))
all_along P says h [] = tt
all_along P says h (l ∷ ls) =
    subst (λ xs. AllByRecursion P xs) (sym (flat_map-cons says (line_of l) (map line_of ls)))
    (joined P (says (line_of l)) (flat_map says (map line_of ls)) (h (line_of l) (in_range l)) (all_along P says h ls))

kept_id : (o : Option ℕ) → AllByRecursion FewId (option_to_list o) → unwrap_or o 0 ≤ max_id
kept_id None h = omega arith
kept_id (Some id) h = h.0

pub has_ids : (text : List ℕ) (kept : Input) (given : CallInput) → Says (lines_of text) kept → Lends kept given → HasIds given
has_ids text kept given says lends = record {
  id = subst (λ n. n ≤ max_id) (sym lends.id) (kept_id kept.id (subst (λ ids. AllByRecursion FewId ids) (sym says.id) (all_along FewId id_by line_ids (lines text))));
  targets = subst (λ es. AllByRecursion FewTarget es) (sym (lends.edges ∙ says.edges)) (all_along FewTarget edge_by line_edges (lines text));
}
