-- The numbers in a graph that a text means are in range.
use Rattle.std.proofs.Common.{inl, inr, ◌≡◌, ℕ, ◌-◌, ◌^◌, ◌≤◌, Bool, true, false, cond, ◌&&◌, leb, List, [], ◌∷◌, map, Option, Some, None, refl, ap, sym, ◌∙◌, arith}
use Rattle.std.specs.Prelude.{ℤ, codes, slice_index, nat_eq}
use Rattle.std.specs.List.{All, AllByRecursion}
use Rattle.std.specs.Str.{all_ascii_digits, bytes_eq}
use Rattle.std.specs.Str.Lines.{lines}
use Rattle.std.specs.Str.Parse.{digits_value}
use Rattle.std.proofs.lemmas.Bool.{cases_Bool, and_parts, leb-true}
use Rattle.std.proofs.lemmas.List.Elements.{All-filter, All-from_recursion, All-map, recursion_from_All}
use Rattle.std.proofs.lemmas.List.Sorted.{All-permutation}
use Rattle.graph.specs.declared.line.Line.{Line}
use Rattle.graph.specs.declared.line.Line.TheVariants as line
use Rattle.graph.specs.declared.vertex.Edge.{Edge}
use Rattle.graph.specs.Entry.{Entry, IsProper, edges_from, end_of, heads, is_in_range}
use Rattle.line_text.specs.Fields.{fields, is_filled}
use Rattle.graph.specs.Graph.{IsSaid}
use Rattle.graph.specs.Line.{edge_line, line_of, line_of_fields, vertex_line}
use Rattle.line_text.specs.Number.{id_of, number_of, numeral}
use Rattle.graph.specs.Said.{all_declared, all_edges, lines_of}

numeral_small : (most : ℕ) (digits : List ℕ) (n : ℕ) → numeral most digits ≡ Some n → n ≤ most
numeral_small most digits n e = elim (cases_Bool (is_filled digits && all_ascii_digits digits && leb (digits_value 10 digits) most)) [
  | inl good ↦
      let both = and_parts (is_filled digits && all_ascii_digits digits) (leb (digits_value 10 digits) most) good in
      let small = leb-true _ _ both.1 in
      let same : ◌≡◌ {A = Option ℕ} (Some (digits_value 10 digits)) (Some n) = sym (ap (λ b. cond b (Some (digits_value 10 digits)) None) good) ∙ e in
      let value : digits_value 10 digits ≡ n = cc in
      omega arith
  | inr bad ↦
      let same : ◌≡◌ {A = Option ℕ} None (Some n) = sym (ap (λ b. cond b (Some (digits_value 10 digits)) None) bad) ∙ e in
      absurd (cc)
]

id_small : (text : List ℕ) (n : ℕ) → id_of text ≡ Some n → is_in_range n
id_small text n e = let small = numeral_small (2 ^ 63 - 1) text n e in omega arith

-- the numbers that a line names are in range
abbrev InRange : Line → Type 0
InRange (line.Vertex id value) = is_in_range id
InRange (line.Edge from target value) = is_in_range target
InRange line.Blank = Unit {0}
InRange line.BadForm = Unit {0}
InRange line.BadNumber = Unit {0}

vertex_line_range : (id : Option ℕ) (value : Option ℤ) → ((n : ℕ) → id ≡ Some n → is_in_range n) → InRange (vertex_line id value)
vertex_line_range (Some id) (Some value) h = h id refl
vertex_line_range (Some id) None h = tt
vertex_line_range None value h = tt

edge_line_range : (from target : Option ℕ) (value : Option ℤ) → ((n : ℕ) → target ≡ Some n → is_in_range n) → InRange (edge_line from target value)
edge_line_range (Some from) (Some target) (Some value) h = h target refl
edge_line_range (Some from) (Some target) None h = tt
edge_line_range (Some from) None value h = tt
edge_line_range None target value h = tt

either : (b : Bool) (x y : Line) → InRange x → InRange y → InRange (cond b x y)
either true x y h i = h
either false x y h i = i

fields_range : (parts : List (List ℕ)) → InRange (line_of_fields parts)
fields_range [] = tt
fields_range (name ∷ []) = tt
fields_range (name ∷ id ∷ []) = tt
fields_range (name ∷ id ∷ value ∷ []) =
    either (bytes_eq name (codes "v")) _ _ (vertex_line_range (id_of id) (number_of value) (id_small id)) tt
fields_range (name ∷ from ∷ target ∷ value ∷ []) =
    either (bytes_eq name (codes "e")) _ _ (edge_line_range (id_of from) (id_of target) (number_of value) (id_small target)) tt
fields_range (name ∷ from ∷ target ∷ value ∷ more ∷ others) = tt

line_range : (text : List ℕ) → InRange (line_of text)
line_range text = either (nat_eq (slice_index text 0) 35) line.Blank (line_of_fields (fields text)) tt (fields_range (fields text))

lines_range : (texts : List (List ℕ)) → AllByRecursion InRange (map line_of texts)
lines_range [] = tt
lines_range (text ∷ texts) = (line_range text, lines_range texts)

declared_range : (said : List Line) → AllByRecursion InRange said → AllByRecursion (λ (head : ℕ × ℤ). is_in_range head.0) (all_declared said)
declared_range [] h = tt
declared_range (line.Vertex id value ∷ said) h = (h.0, declared_range said h.1)
declared_range (line.Edge from target value ∷ said) h = declared_range said h.1
declared_range (line.Blank ∷ said) h = declared_range said h.1
declared_range (line.BadForm ∷ said) h = declared_range said h.1
declared_range (line.BadNumber ∷ said) h = declared_range said h.1

targets_range : (said : List Line) → AllByRecursion InRange said → AllByRecursion (λ (edge : Edge). is_in_range edge.target) (all_edges said)
targets_range [] h = tt
targets_range (line.Edge from target value ∷ said) h = (h.0, targets_range said h.1)
targets_range (line.Vertex id value ∷ said) h = targets_range said h.1
targets_range (line.Blank ∷ said) h = targets_range said h.1
targets_range (line.BadForm ∷ said) h = targets_range said h.1
targets_range (line.BadNumber ∷ said) h = targets_range said h.1

from_heads : (graph : List Entry) → AllByRecursion (λ (head : ℕ × ℤ). is_in_range head.0) (heads graph) → AllByRecursion (λ (entry : Entry). is_in_range entry.id) graph
from_heads [] h = tt
from_heads (entry ∷ graph) h = (h.0, from_heads graph h.1)

edges_range : (said : List Line) (graph : List Entry) → AllByRecursion InRange said → AllByRecursion (λ entry. entry.edges ≡ edges_from (all_edges said) entry.id) graph
    → AllByRecursion (λ entry. All (λ (edge : ℕ × ℤ). is_in_range edge.0) entry.edges) graph
edges_range said [] range h = tt
edges_range said (entry ∷ graph) range h =
    let all : All (λ (edge : Edge). is_in_range edge.target) (all_edges said) = All-from_recursion _ _ (targets_range said range) in
    let here : All (λ (edge : ℕ × ℤ). is_in_range edge.0) (edges_from (all_edges said) entry.id) =
    All-map (λ (edge : ℕ × ℤ). is_in_range edge.0) end_of _ (All-filter (λ edge. nat_eq edge.from entry.id) (λ (edge : Edge). is_in_range edge.target) (all_edges said) all) in
    (rw h.0 here, edges_range said graph range h.1)

pub said_proper : (text : List ℕ) (graph : List Entry) → IsSaid (lines_of text) graph → IsProper graph
said_proper text graph said =
    let range = lines_range (lines text) in
    record {
      rising = said.rising;
      ids_in_range =
          All-from_recursion _ graph (from_heads graph (recursion_from_All _ (heads graph)
          (All-permutation (λ (head : ℕ × ℤ). is_in_range head.0) (all_declared (lines_of text)) (heads graph) said.vertices (All-from_recursion _ _ (declared_range (lines_of text) range)))));
      targets_in_range = All-from_recursion _ graph (edges_range (lines_of text) graph range (recursion_from_All _ graph said.edges));
    }
