-- A text that is cut at line ends, and what was collected of its pieces.
use Rattle.std.proofs.Common.{inl, inr, ◌≡◌, ℕ, ◌+◌, ◌<◌, ◌≤◌, Bool, true, List, [], ◌∷◌, ◌++◌, Option, Some, None, Result, Ok, Err, length, take, drop, get_or, map, refl, ap, sym, ◌∙◌, arith, eqb, append-nil, append_assoc, length-append}
use Rattle.std.specs.Prelude.{IfOk, IfSome, sum_by, vec_len}
use Rattle.std.specs.Borrow.{Bor}
use Rattle.std.specs.List.{All, flat_map, onto_first, slice_split}
use Rattle.std.specs.Result.{result_ok}
use Rattle.std.specs.Str.Lines.{lines, lines_of_parts, strip_carriage_return}
use Rattle.std.proofs.lemmas.Bool.{cases_Bool}
use Rattle.std.proofs.lemmas.List.{drop_more, flat_map_more, length-map, map-append, take_more, take-append-drop}
use Rattle.std.proofs.lemmas.List.Concat.{flat_map-append, length-flat_map}
use Rattle.std.proofs.lemmas.List.Elements.{All-append, All-nil}
use Rattle.std.proofs.lemmas.List.Splits.{length-slice_split, slice_split-cons_no, slice_split-cons_yes}
use Rattle.std.proofs.lemmas.List.Sums.{sum_by-cons}
use Rattle.graph.specs.declared.collect.Collected.{Collected}
use Rattle.graph.specs.declared.line.Line.{Line}
use Rattle.graph.specs.declared.vertex.Edge.{Edge}
use Rattle.graph.specs.declared.vertex.TheConstants.{MAX_VERTICES, MAX_EDGES}
use Rattle.graph.specs.declared.vertex.Vertex.{Vertex}
use Rattle.graph.specs.inside.Collected.{Says, bare}
use Rattle.graph.specs.inside.Pieces.{AreCollected, IsWhole, edges_in, lines_in, piece_edges, piece_lines, piece_vertices, vertices_in}
use Rattle.graph.specs.Entry.{entries_of, entry_of}
use Rattle.graph.specs.Line.{is_good, line_of}
use Rattle.graph.specs.Said.{all_declared, all_edges, declared_by, lines_of, said_by}

-- ---- a text that is cut behind a line feed

onto_front : {X : Type 0} (x : X) (front back : List (List X)) → 0 < length front → onto_first x (front ++ back) ≡ onto_first x front ++ back
onto_front x [] back some = absurd (omega arith)
onto_front x (part ∷ front) back some = refl

-- the parts of a list are those before an element that passes, and those behind it
split_apart : {X : Type 0} (p : X → Bool) (xs : List X) (y : X) (ys : List X) → p y ≡ true
    → slice_split p (xs ++ y ∷ ys) ≡ slice_split p xs ++ slice_split p ys
split_apart p [] y ys hit = slice_split-cons_yes p y ys hit
split_apart p (x ∷ xs) y ys hit = elim (cases_Bool (p x)) [
  | inl here ↦
      slice_split-cons_yes p x (xs ++ y ∷ ys) here
      ∙ ap (λ parts. [] ∷ parts) (split_apart p xs y ys hit)
      ∙ ap (λ parts. parts ++ slice_split p ys) (sym (slice_split-cons_yes p x xs here))
  | inr other ↦
      slice_split-cons_no p x (xs ++ y ∷ ys) other
      ∙ ap (onto_first x) (split_apart p xs y ys hit)
      ∙ onto_front x (slice_split p xs) (slice_split p ys) (omega (arith, length-slice_split p xs))
      ∙ ap (λ parts. parts ++ slice_split p ys) (sym (slice_split-cons_no p x xs other))
]

one_part : (part : List ℕ) (parts : List (List ℕ)) → 0 < length parts → lines_of_parts (part ∷ parts) ≡ strip_carriage_return part ∷ lines_of_parts parts
one_part part [] some = absurd (omega arith)
one_part part (next ∷ parts) some = refl

-- parts that are not the last are lines
parts_before : (front back : List (List ℕ)) → 0 < length back → lines_of_parts (front ++ back) ≡ map strip_carriage_return front ++ lines_of_parts back
parts_before [] back some = refl
parts_before (part ∷ front) back some =
    one_part part (front ++ back) (omega (arith, length-append front back)) ∙ ap (λ ls. strip_carriage_return part ∷ ls) (parts_before front back some)

lines_apart : (front back : List ℕ) → lines (front ++ 10 ∷ back) ≡ lines (front ++ 10 ∷ []) ++ lines back
lines_apart front back =
    let feed = λ (b : ℕ). eqb b 10 in
    let some : 0 < length (slice_split feed back) = omega (arith, length-slice_split feed back) in
    let first : lines (front ++ 10 ∷ []) ≡ map strip_carriage_return (slice_split feed front) =
    ap lines_of_parts (split_apart feed front 10 [] refl) ∙ parts_before (slice_split feed front) ([] ∷ []) (omega arith) ∙ append-nil _ in
    ap lines_of_parts (split_apart feed front 10 back refl) ∙ parts_before (slice_split feed front) (slice_split feed back) some
    ∙ ap (λ ls. ls ++ lines back) (sym first)

-- the lines of a text are those up to a line feed, and those behind it
pub cut_lines : (text : List ℕ) (place : ℕ) → place < length text → get_or text place 0 ≡ 10
    → lines_of text ≡ lines_of (take (place + 1) text) ++ lines_of (drop (place + 1) text)
cut_lines text place below feed =
    let first : take (place + 1) text ≡ take place text ++ 10 ∷ [] = take_more text place 0 below ∙ ap (λ b. take place text ++ b ∷ []) feed in
    let whole : text ≡ take place text ++ 10 ∷ drop (place + 1) text =
    sym (take-append-drop place text) ∙ ap (λ bs. take place text ++ bs) (drop_more text place 0 below ∙ ap (λ b. b ∷ drop (place + 1) text) feed) in
    let apart : lines text ≡ lines (take (place + 1) text) ++ lines (drop (place + 1) text) =
    ap lines whole ∙ lines_apart (take place text) (drop (place + 1) text) ∙ ap (λ bs. lines bs ++ lines (drop (place + 1) text)) (sym first) in
    ap (map line_of) apart ∙ map-append line_of (lines (take (place + 1) text)) (lines (drop (place + 1) text))

pub cut_apart : (text : List ℕ) (place : ℕ) (cut : Option (Bor (List ℕ) × Bor (List ℕ))) → lines_of text ≡ lines_of (take place text) ++ lines_of (drop place text)
    → IfSome cut (λ x. x.0.now ≡ take place text) → IfSome cut (λ x. x.1.now ≡ drop place text)
    → IfSome cut (λ x. lines_of text ≡ lines_of x.0.now ++ lines_of x.1.now)
cut_apart text place None apart front back = tt
cut_apart text place (Some x) apart front back = rw (front, back) apart

-- ---- pieces, one after another

pub piece_last : (pieces : List (Bor (List ℕ))) (piece : Bor (List ℕ)) → lines_in pieces ++ lines_of piece.now ≡ lines_in (pieces ++ piece ∷ [])
piece_last pieces piece = flat_map_more piece_lines [] pieces piece

pub piece_more : (whole : List Line) (pieces : List (Bor (List ℕ))) (piece : Bor (List ℕ)) (rest others : List ℕ)
    → whole ≡ lines_in pieces ++ lines_of rest → lines_of rest ≡ lines_of piece.now ++ lines_of others
    → whole ≡ lines_in (pieces ++ piece ∷ []) ++ lines_of others
piece_more whole pieces piece rest others before cut =
    before ∙ ap (λ ls. lines_in pieces ++ ls) cut ∙ sym (append_assoc (lines_in pieces) (lines_of piece.now) (lines_of others))
    ∙ ap (λ ls. ls ++ lines_of others) (piece_last pieces piece)

-- ---- what was collected of pieces

-- these vertices and edges are what the lines declare, whatever the limits
record Declares (lines : List Line) (vertices : List Vertex) (edges : List Edge) : Type 0 where
  pub good : All (λ line. is_good line ≡ true) lines
  pub heads : entries_of vertices ≡ map bare (all_declared lines)
  pub all : edges ≡ all_edges lines

declares_both : (lines others : List Line) (vertices more_vertices : List Vertex) (edges more_edges : List Edge)
    → Declares lines vertices edges → Declares others more_vertices more_edges
    → Declares (lines ++ others) (vertices ++ more_vertices) (edges ++ more_edges)
declares_both lines others vertices more_vertices edges more_edges one other = record {
  good = All-append (λ line. is_good line ≡ true) lines others one.good other.good;
  heads =
      map-append entry_of vertices more_vertices
      ∙ ap (λ es. es ++ entries_of more_vertices) one.heads
      ∙ ap (λ es. map bare (all_declared lines) ++ es) other.heads
      ∙ sym (map-append bare (all_declared lines) (all_declared others))
      ∙ ap (map bare) (sym (flat_map-append declared_by lines others));
  all =
      ap (λ es. es ++ more_edges) one.all
      ∙ ap (λ es. all_edges lines ++ es) other.all
      ∙ sym (flat_map-append said_by lines others);
}

declares_all : (pieces : List (Bor (List ℕ))) (collected : List Collected) → AreCollected pieces collected
    → Declares (lines_in pieces) (vertices_in collected) (edges_in collected)
declares_all [] [] each = record { good = All-nil (λ line. is_good line ≡ true); heads = refl; all = refl }
declares_all [] (one ∷ collected) each = absurd each
declares_all (piece ∷ pieces) [] each = absurd each
declares_all (piece ∷ pieces) (one ∷ collected) each =
    let says = each.0 in
    declares_both (piece_lines piece) (lines_in pieces) (piece_vertices one) (vertices_in collected) (piece_edges one) (edges_in collected)
    (record { good = says.can.good; heads = says.vertices; all = says.edges })
    (declares_all pieces collected each.1)

-- what was collected of all pieces is what their lines declare
pub says_whole : (pieces : List (Bor (List ℕ))) (collected : List Collected) (whole : Collected) → AreCollected pieces collected
    → IsWhole collected whole → Says (lines_in pieces) whole
says_whole pieces collected whole each is =
    let declares = declares_all pieces collected each in
    let heads : entries_of whole.vertices.items ≡ map bare (all_declared (lines_in pieces)) = ap entries_of is.vertices ∙ declares.heads in
    let edges : whole.edges.items ≡ all_edges (lines_in pieces) = is.edges ∙ declares.all in
    record {
      can = record {
        good = declares.good;
        within = record {
          vertices = omega (arith, is.few_vertices, ap length heads, length-map whole.vertices.items entry_of, length-map (all_declared (lines_in pieces)) bare);
          edges = omega (arith, is.few_edges, ap length edges);
        };
      };
      vertices = heads;
      edges = edges;
    }

pub says_if_whole : (text : List ℕ) (pieces : List (Bor (List ℕ))) (collected : List Collected) (result : Option Collected)
    → lines_of text ≡ lines_in pieces → AreCollected pieces collected → IfSome result (IsWhole collected) → IfSome result (Says (lines_of text))
says_if_whole text pieces collected None cut each is = tt
says_if_whole text pieces collected (Some whole) cut each is = rw cut (says_whole pieces collected whole each is)

-- as many as all pieces have
pub vertices_counted : (pieces : List Collected) → length (vertices_in pieces) ≡ sum_by (λ piece. vec_len piece.vertices) pieces
vertices_counted [] = refl
vertices_counted (piece ∷ pieces) =
    omega (arith, length-append (piece_vertices piece) (vertices_in pieces), vertices_counted pieces, sum_by-cons (λ (piece : Collected). vec_len piece.vertices) piece pieces, piece.vertices.ok.0)

pub edges_counted : (pieces : List Collected) → length (edges_in pieces) ≡ sum_by (λ piece. vec_len piece.edges) pieces
edges_counted [] = refl
edges_counted (piece ∷ pieces) =
    omega (arith, length-append (piece_edges piece) (edges_in pieces), edges_counted pieces, sum_by-cons (λ (piece : Collected). vec_len piece.edges) piece pieces, piece.edges.ok.0)

pub whole_if_ok : {E : Type 0} (pieces : List Collected) (result : Result Collected E) → length (vertices_in pieces) ≤ MAX_VERTICES → length (edges_in pieces) ≤ MAX_EDGES
    → IfOk result (λ whole. whole.vertices.items ≡ vertices_in pieces) → IfOk result (λ whole. whole.edges.items ≡ edges_in pieces)
    → IfSome (result_ok result) (IsWhole pieces)
whole_if_ok pieces (Err fault) few_vertices few_edges vertices edges = tt
whole_if_ok pieces (Ok whole) few_vertices few_edges vertices edges =
    record { vertices = vertices; edges = edges; few_vertices = rw vertices few_vertices; few_edges = rw edges few_edges }
