-- What the text of a graph means.
use Rattle.std.proofs.Common.{◌≡◌, ◌≢◌, ℕ, zero, suc, ◌-◌, ◌^◌, ◌<◌, ◌≤◌, true, false, cond, eqb, leb, ◌&&◌, List, [], ◌∷◌, ◌++◌, length, get_or, map, filter, Some, None, refl, ap, sym, subst, ◌∙◌, arith, append_assoc}
use Rattle.std.specs.Prelude.{ℤ, pos, negsuc, neg_ℤ, FitsSigned}
use Rattle.std.specs.Fmt.{decimal, signed_decimal}
use Rattle.std.specs.Int.{w64}
use Rattle.std.specs.List.{All, AllByRecursion, Contains, slice_split}
use Rattle.std.specs.List.Sorted.{IsStrictlyIncreasing}
use Rattle.std.specs.Option.{option_map}
use Rattle.std.specs.Str.{all_ascii_digits}
use Rattle.std.specs.Str.Lines.{lines, lines_of_parts, strip_carriage_return}
use Rattle.std.specs.Str.Parse.{AllDigits, digits_value, starts_with_minus}
use Rattle.std.proofs.lemmas.Bool.{and_from, le-leb, ne_eqb}
use Rattle.std.proofs.lemmas.Fmt.{decimal_is_IsNumeral, decimal_nonempty, digits_decimal, digits_value-decimal}
use Rattle.std.proofs.lemmas.List.Elements.{All-from_recursion}
use Rattle.std.proofs.lemmas.List.Sorted.{IsPermutation-refl}
use Rattle.std.proofs.lemmas.List.Splits.{length-slice_split, slice_split_at, slice_split_none}
use Rattle.std.proofs.lemmas.Str.Parse.{IsNumeralModel, digit_from_value, not_in_digits, numerals_by_value, tells_all_ascii_digits}
use Rattle.graph.specs.declared.line.Line.{Line}
use Rattle.graph.specs.declared.line.Line.TheVariants.{Edge as EdgeLine, Vertex}
use Rattle.graph.specs.declared.vertex.Edge.{Edge}
use Rattle.graph.specs.declared.vertex.TheConstants.{MAX_EDGES, MAX_VERTICES}
use Rattle.graph.specs.Entry.{edges_from, heads, ids}
use Rattle.line_text.specs.Fields.{fields, is_blank, is_filled}
use Rattle.graph.specs.Graph.{AreWithinLimits, IsGraphText, IsSaid, IsWithinLimits}
use Rattle.graph.specs.Line.{edge_line as edge_numbers, is_good, line_of, line_of_fields, vertex_line as vertex_numbers}
use Rattle.line_text.specs.Number.{id_of, number_of, numeral}
use Rattle.graph.specs.Print.{id_in, value_line, value_lines}
use Rattle.graph.specs.Said.{all_declared, all_edges, lines_of}
use Rattle.conversions.specs.graph_import.Graph.{edge_line, edge_lines, graph_of, graph_text, vertex_of}
use Rattle.graph.specs.inside.Ranges.{IsInRange}

-- ---- numbers

own : IsNumeralModel (λ digits. all_ascii_digits digits ≡ true) (digits_value 10)
own = numerals_by_value (λ digits. all_ascii_digits digits ≡ true) tells_all_ascii_digits

-- each byte is above the blanks, the ends of lines and the sign `+`
abbrev AreDark : List ℕ → Type 0
AreDark bytes = AllByRecursion (λ byte. 44 < byte) bytes

digits_dark : (digits : List ℕ) → AllDigits 10 digits → AreDark digits
digits_dark [] h = tt
digits_dark (digit ∷ digits) h = (let low = (digit_from_value digit h.0).0 in omega arith, digits_dark digits h.1)

decimal_dark : (n : ℕ) → n < 2 ^ 64 → AreDark (decimal n)
decimal_dark n small = digits_dark (decimal n) (decimal_is_IsNumeral n small).0.1

signed_dark : (z : ℤ) → FitsSigned w64 z → AreDark (signed_decimal z)
signed_dark (pos n) h = let small : n < 2 ^ 63 = h.sfits in decimal_dark n (omega arith)
signed_dark (negsuc n) h = let small : n < 2 ^ 63 = h.sfits in (omega arith, decimal_dark (suc n) (omega arith))

filled : (bytes : List ℕ) → 0 < length bytes → is_filled bytes ≡ true
filled [] some = absurd (omega arith)
filled (byte ∷ bytes) some = refl

decimal_filled : (n : ℕ) → n < 2 ^ 64 → is_filled (decimal n) ≡ true
decimal_filled n small = filled (decimal n) (decimal_nonempty n small)

signed_filled : (z : ℤ) → FitsSigned w64 z → is_filled (signed_decimal z) ≡ true
signed_filled (pos n) h = let small : n < 2 ^ 63 = h.sfits in decimal_filled n (omega arith)
signed_filled (negsuc n) h = refl

numeral_decimal : (most n : ℕ) → n ≤ most → n < 2 ^ 64 → numeral most (decimal n) ≡ Some n
numeral_decimal most n fits small =
    let value : digits_value 10 (decimal n) ≡ n = digits_value-decimal own n small in
    let below : digits_value 10 (decimal n) ≤ most = rw value fits in
    let passes : (is_filled (decimal n) && all_ascii_digits (decimal n) && leb (digits_value 10 (decimal n)) most) ≡ true =
    and_from _ _ (and_from _ _ (decimal_filled n small) (digits_decimal own n small)) (le-leb _ _ below) in
    ap (λ b. cond b (Some (digits_value 10 (decimal n))) None) passes ∙ ap Some value

id_decimal : (n : ℕ) → n < 2 ^ 63 → id_of (decimal n) ≡ Some n
id_decimal n small = numeral_decimal (2 ^ 63 - 1) n (omega arith) (omega arith)

no_minus : (n : ℕ) → n < 2 ^ 64 → starts_with_minus (decimal n) ≡ false
no_minus n small =
    ne_eqb (get_or (decimal n) 0 0) 45
    (not_in_digits own (decimal n) 45 (digits_decimal own n small) (λ bounds. let low = bounds.0 in omega arith) 0 (decimal_nonempty n small))

number_decimal : (z : ℤ) → FitsSigned w64 z → number_of (signed_decimal z) ≡ Some z
number_decimal (pos n) h =
    let small : n < 2 ^ 63 = h.sfits in
    rw (no_minus n (omega arith)) (ap (option_map pos) (numeral_decimal (2 ^ 63 - 1) n (omega arith) (omega arith)))
number_decimal (negsuc n) h =
    let small : n < 2 ^ 63 = h.sfits in
    ap (option_map (λ k. neg_ℤ (pos k))) (numeral_decimal (2 ^ 63) (suc n) (omega arith) (omega arith))

-- ---- fields

dark_no_blank : (byte : ℕ) → 44 < byte → is_blank byte ≡ false
dark_no_blank byte dark = rw (ne_eqb byte 32 (λ e. omega arith), ne_eqb byte 9 (λ e. omega arith)) refl

no_blanks_rec : (bytes : List ℕ) → AreDark bytes → AllByRecursion (λ byte. is_blank byte ≡ false) bytes
no_blanks_rec [] h = tt
no_blanks_rec (byte ∷ bytes) h = (dark_no_blank byte h.0, no_blanks_rec bytes h.1)

no_blanks : (bytes : List ℕ) → AreDark bytes → All (λ byte. is_blank byte ≡ false) bytes
no_blanks bytes h = All-from_recursion (λ byte. is_blank byte ≡ false) bytes (no_blanks_rec bytes h)

field_first : (field rest : List ℕ) → AreDark field → is_filled field ≡ true → fields (field ++ 32 ∷ rest) ≡ field ∷ fields rest
field_first field rest dark some =
    ap (filter is_filled) (slice_split_at is_blank field 32 rest (no_blanks field dark) refl)
    ∙ ap (λ b. cond b (field ∷ fields rest) (fields rest)) some

field_last : (field : List ℕ) → AreDark field → is_filled field ≡ true → fields field ≡ field ∷ []
field_last field dark some =
    ap (filter is_filled) (slice_split_none is_blank field (no_blanks field dark))
    ∙ ap (λ b. cond b (field ∷ []) []) some

-- ---- lines without their ends

abbrev vertex_words : ℕ × ℤ → List ℕ
vertex_words vertex = decimal vertex.0 ++ 32 ∷ signed_decimal vertex.1

abbrev edge_words : Edge → List ℕ
edge_words edge = decimal edge.from ++ 32 ∷ (decimal edge.target ++ 32 ∷ signed_decimal edge.value)

-- the numbers of a vertex are in their ranges
pub record VertexFits (vertex : ℕ × ℤ) : Type 0 where
  pub id : vertex.0 < 2 ^ 63
  pub value : FitsSigned w64 vertex.1

vertex_fields : (vertex : ℕ × ℤ) → VertexFits vertex → fields (vertex_words vertex) ≡ decimal vertex.0 ∷ signed_decimal vertex.1 ∷ []
vertex_fields vertex h =
    let id = h.id in
    field_first (decimal vertex.0) (signed_decimal vertex.1) (decimal_dark vertex.0 (omega arith)) (decimal_filled vertex.0 (omega arith))
    ∙ ap (λ parts. decimal vertex.0 ∷ parts) (field_last (signed_decimal vertex.1) (signed_dark vertex.1 h.value) (signed_filled vertex.1 h.value))

edge_fields : (edge : Edge) → IsInRange edge
    → fields (edge_words edge) ≡ decimal edge.from ∷ decimal edge.target ∷ signed_decimal edge.value ∷ []
edge_fields edge h =
    let from = h.from in
    let target = h.target in
    field_first (decimal edge.from) (decimal edge.target ++ 32 ∷ signed_decimal edge.value) (decimal_dark edge.from (omega arith)) (decimal_filled edge.from (omega arith))
    ∙ ap (λ parts. decimal edge.from ∷ parts)
    (field_first (decimal edge.target) (signed_decimal edge.value) (decimal_dark edge.target (omega arith)) (decimal_filled edge.target (omega arith))
    ∙ ap (λ parts. decimal edge.target ∷ parts) (field_last (signed_decimal edge.value) (signed_dark edge.value h.value) (signed_filled edge.value h.value)))

vertex_meant : (vertex : ℕ × ℤ) → VertexFits vertex → line_of (118 ∷ 32 ∷ vertex_words vertex) ≡ Vertex vertex.0 vertex.1
vertex_meant vertex h =
    ap (λ parts. line_of_fields ((118 ∷ []) ∷ parts)) (vertex_fields vertex h)
    ∙ ap (λ id. vertex_numbers id (number_of (signed_decimal vertex.1))) (id_decimal vertex.0 h.id)
    ∙ ap (λ value. vertex_numbers (Some vertex.0) value) (number_decimal vertex.1 h.value)

edge_meant : (edge : Edge) → IsInRange edge → line_of (101 ∷ 32 ∷ edge_words edge) ≡ EdgeLine edge.from edge.target edge.value
edge_meant edge h =
    ap (λ parts. line_of_fields ((101 ∷ []) ∷ parts)) (edge_fields edge h)
    ∙ ap (λ from. edge_numbers from (id_of (decimal edge.target)) (number_of (signed_decimal edge.value))) (id_decimal edge.from h.from)
    ∙ ap (λ target. edge_numbers (Some edge.from) target (number_of (signed_decimal edge.value))) (id_decimal edge.target h.target)
    ∙ ap (λ value. edge_numbers (Some edge.from) (Some edge.target) value) (number_decimal edge.value h.value)

-- ---- lines with their ends

-- each byte is above the ends of lines
abbrev AreInner : List ℕ → Type 0
AreInner bytes = AllByRecursion (λ byte. 13 < byte) bytes

dark_inner : (bytes : List ℕ) → AreDark bytes → AreInner bytes
dark_inner [] h = tt
dark_inner (byte ∷ bytes) h = (let dark = h.0 in omega arith, dark_inner bytes h.1)

inner_both : (xs ys : List ℕ) → AreInner xs → AreInner ys → AreInner (xs ++ ys)
inner_both [] ys h i = i
inner_both (x ∷ xs) ys h i = (h.0, inner_both xs ys h.1 i)

no_return : (bytes : List ℕ) (place : ℕ) → AreInner bytes → get_or bytes place 0 ≢ 13
no_return [] place h e = omega arith
no_return (byte ∷ bytes) zero h e = let high = h.0 in omega arith
no_return (byte ∷ bytes) (suc place) h e = no_return bytes place h.1 e

no_feed_rec : (bytes : List ℕ) → AreInner bytes → AllByRecursion (λ byte. eqb byte 10 ≡ false) bytes
no_feed_rec [] h = tt
no_feed_rec (byte ∷ bytes) h = (ne_eqb byte 10 (λ e. let high = h.0 in omega arith), no_feed_rec bytes h.1)

strip_inner : (bytes : List ℕ) → AreInner bytes → strip_carriage_return bytes ≡ bytes
strip_inner bytes h = rw (ne_eqb (get_or bytes (length bytes - 1) 0) 13 (no_return bytes (length bytes - 1) h)) refl

parts_more : (part : List ℕ) (parts : List (List ℕ)) → 0 < length parts
    → lines_of_parts (part ∷ parts) ≡ strip_carriage_return part ∷ lines_of_parts parts
parts_more part [] some = absurd (omega arith)
parts_more part (next ∷ parts) some = refl

lines_first : (line rest : List ℕ) → AreInner line → lines (line ++ 10 ∷ rest) ≡ line ∷ lines rest
lines_first line rest h =
    ap lines_of_parts (slice_split_at (λ byte. eqb byte 10) line 10 rest (All-from_recursion (λ byte. eqb byte 10 ≡ false) line (no_feed_rec line h)) refl)
    ∙ parts_more line (slice_split (λ byte. eqb byte 10) rest) (omega (arith, length-slice_split (λ byte. eqb byte 10) rest))
    ∙ ap (λ first. first ∷ lines rest) (strip_inner line h)

said_first : (line rest : List ℕ) → AreInner line → lines_of (line ++ 10 ∷ rest) ≡ line_of line ∷ lines_of rest
said_first line rest h = ap (map line_of) (lines_first line rest h)

-- pieces put one behind another, from the right
five_pieces : (h a s b t rest : List ℕ) → h ++ a ++ s ++ b ++ t ++ rest ≡ h ++ (a ++ (s ++ (b ++ (t ++ rest))))
five_pieces h a s b t rest =
    append_assoc (h ++ a ++ s ++ b) t rest
    ∙ append_assoc (h ++ a ++ s) b (t ++ rest)
    ∙ append_assoc (h ++ a) s (b ++ (t ++ rest))
    ∙ append_assoc h a (s ++ (b ++ (t ++ rest)))

vertex_pieces : (a b rest : List ℕ)
    → (118 ∷ 32 ∷ []) ++ a ++ (32 ∷ []) ++ b ++ (10 ∷ []) ++ rest ≡ (118 ∷ 32 ∷ (a ++ 32 ∷ b)) ++ 10 ∷ rest
vertex_pieces a b rest =
    five_pieces (118 ∷ 32 ∷ []) a (32 ∷ []) b (10 ∷ []) rest
    ∙ ap (λ xs. 118 ∷ 32 ∷ xs) (sym (append_assoc a (32 ∷ b) (10 ∷ rest)))

edge_pieces : (a b c rest : List ℕ)
    → (101 ∷ 32 ∷ []) ++ a ++ (32 ∷ []) ++ b ++ (32 ∷ []) ++ c ++ (10 ∷ []) ++ rest
    ≡ (101 ∷ 32 ∷ (a ++ 32 ∷ (b ++ 32 ∷ c))) ++ 10 ∷ rest
edge_pieces a b c rest =
    append_assoc ((101 ∷ 32 ∷ []) ++ a ++ (32 ∷ []) ++ b ++ (32 ∷ []) ++ c) (10 ∷ []) rest
    ∙ append_assoc ((101 ∷ 32 ∷ []) ++ a ++ (32 ∷ []) ++ b ++ (32 ∷ [])) c (10 ∷ rest)
    ∙ five_pieces (101 ∷ 32 ∷ []) a (32 ∷ []) b (32 ∷ []) (c ++ 10 ∷ rest)
    ∙ ap (λ xs. 101 ∷ 32 ∷ xs)
    (sym (append_assoc a (32 ∷ (b ++ 32 ∷ c)) (10 ∷ rest) ∙ ap (λ xs. a ++ 32 ∷ xs) (append_assoc b (32 ∷ c) (10 ∷ rest))))

vertex_inner : (vertex : ℕ × ℤ) → VertexFits vertex → AreInner (118 ∷ 32 ∷ vertex_words vertex)
vertex_inner vertex h =
    let id = h.id in (
      omega arith,
      (
        omega arith,
        inner_both (decimal vertex.0) (32 ∷ signed_decimal vertex.1) (dark_inner (decimal vertex.0) (decimal_dark vertex.0 (omega arith)))
            (omega arith, dark_inner (signed_decimal vertex.1) (signed_dark vertex.1 h.value)),
      ),
    )

edge_inner : (edge : Edge) → IsInRange edge → AreInner (101 ∷ 32 ∷ edge_words edge)
edge_inner edge h =
    let from = h.from in
    let target = h.target in (
      omega arith,
      (
        omega arith,
        inner_both (decimal edge.from) (32 ∷ (decimal edge.target ++ 32 ∷ signed_decimal edge.value)) (dark_inner (decimal edge.from) (decimal_dark edge.from (omega arith))) (
          omega arith,
          inner_both (decimal edge.target) (32 ∷ signed_decimal edge.value) (dark_inner (decimal edge.target) (decimal_dark edge.target (omega arith)))
              (omega arith, dark_inner (signed_decimal edge.value) (signed_dark edge.value h.value)),
        ),
      ),
    )

vertex_said : (vertex : ℕ × ℤ) (rest : List ℕ) → VertexFits vertex → lines_of (value_line vertex ++ rest) ≡ Vertex vertex.0 vertex.1 ∷ lines_of rest
vertex_said vertex rest h =
    ap lines_of (vertex_pieces (decimal vertex.0) (signed_decimal vertex.1) rest)
    ∙ said_first (118 ∷ 32 ∷ vertex_words vertex) rest (vertex_inner vertex h)
    ∙ ap (λ line. line ∷ lines_of rest) (vertex_meant vertex h)

edge_said : (edge : Edge) (rest : List ℕ) → IsInRange edge → lines_of (edge_line edge ++ rest) ≡ EdgeLine edge.from edge.target edge.value ∷ lines_of rest
edge_said edge rest h =
    ap lines_of (edge_pieces (decimal edge.from) (decimal edge.target) (signed_decimal edge.value) rest)
    ∙ said_first (101 ∷ 32 ∷ edge_words edge) rest (edge_inner edge h)
    ∙ ap (λ line. line ∷ lines_of rest) (edge_meant edge h)

-- ---- the whole text

abbrev vertex_says : ℕ × ℤ → Line
vertex_says vertex = Vertex vertex.0 vertex.1

abbrev edge_says : Edge → Line
edge_says edge = EdgeLine edge.from edge.target edge.value

abbrev says : List (ℕ × ℤ) → List Edge → List Line
says vertices edges = map vertex_says vertices ++ map edge_says edges

edges_said : (edges : List Edge) → AllByRecursion IsInRange edges → lines_of (edge_lines edges) ≡ map edge_says edges
edges_said [] h = refl
edges_said (edge ∷ edges) h = edge_said edge (edge_lines edges) h.0 ∙ ap (λ said. edge_says edge ∷ said) (edges_said edges h.1)

all_said : (vertices : List (ℕ × ℤ)) (edges : List Edge) → AllByRecursion VertexFits vertices → AllByRecursion IsInRange edges
    → lines_of (graph_text vertices edges) ≡ says vertices edges
all_said [] edges h i = edges_said edges i
all_said (vertex ∷ vertices) edges h i =
    ap lines_of (append_assoc (value_line vertex) (value_lines vertices) (edge_lines edges))
    ∙ vertex_said vertex (graph_text vertices edges) h.0
    ∙ ap (λ said. vertex_says vertex ∷ said) (all_said vertices edges h.1 i)

edges_declare : (edges : List Edge) → all_declared (map edge_says edges) ≡ []
edges_declare [] = refl
edges_declare (edge ∷ edges) = edges_declare edges

declared_is : (vertices : List (ℕ × ℤ)) (edges : List Edge) → all_declared (says vertices edges) ≡ vertices
declared_is [] edges = edges_declare edges
declared_is (vertex ∷ vertices) edges = ap (λ others. vertex ∷ others) (declared_is vertices edges)

own_edges : (edges : List Edge) → all_edges (map edge_says edges) ≡ edges
own_edges [] = refl
own_edges (edge ∷ edges) = ap (λ others. edge ∷ others) (own_edges edges)

edges_is : (vertices : List (ℕ × ℤ)) (edges : List Edge) → all_edges (says vertices edges) ≡ edges
edges_is [] edges = own_edges edges
edges_is (vertex ∷ vertices) edges = edges_is vertices edges

edges_good : (edges : List Edge) → AllByRecursion (λ line. is_good line ≡ true) (map edge_says edges)
edges_good [] = tt
edges_good (edge ∷ edges) = (refl, edges_good edges)

all_good : (vertices : List (ℕ × ℤ)) (edges : List Edge) → AllByRecursion (λ line. is_good line ≡ true) (says vertices edges)
all_good [] edges = edges_good edges
all_good (vertex ∷ vertices) edges = (refl, all_good vertices edges)

heads_of : (vertices : List (ℕ × ℤ)) (edges : List Edge) → heads (graph_of vertices edges) ≡ vertices
heads_of [] edges = refl
heads_of (vertex ∷ vertices) edges = ap (λ others. vertex ∷ others) (heads_of vertices edges)

ids_of : (vertices : List (ℕ × ℤ)) (edges : List Edge) → ids (graph_of vertices edges) ≡ map id_in vertices
ids_of [] edges = refl
ids_of (vertex ∷ vertices) edges = ap (λ others. vertex.0 ∷ others) (ids_of vertices edges)

edges_placed : (vertices : List (ℕ × ℤ)) (edges : List Edge)
    → AllByRecursion (λ entry. entry.edges ≡ edges_from edges entry.id) (map (vertex_of edges) vertices)
edges_placed [] edges = tt
edges_placed (vertex ∷ vertices) edges = (refl, edges_placed vertices edges)

-- the text means the graph of its vertices and edges
pub means_graph : (vertices : List (ℕ × ℤ)) (edges : List Edge) → AllByRecursion VertexFits vertices → AllByRecursion IsInRange edges
    → IsStrictlyIncreasing (map id_in vertices) → All (λ edge. Contains (map id_in vertices) edge.from) edges
    → All (λ edge. Contains (map id_in vertices) edge.target) edges → IsGraphText (graph_text vertices edges) (graph_of vertices edges)
means_graph vertices edges h i rising from target =
    subst (λ said. IsSaid said (graph_of vertices edges)) (sym (all_said vertices edges h i)) (record {
      good = All-from_recursion _ _ (all_good vertices edges);
      rising = rw (ids_of vertices edges) rising;
      vertices = rw (declared_is vertices edges, heads_of vertices edges) (IsPermutation-refl vertices);
      edges = rw (edges_is vertices edges) (All-from_recursion _ _ (edges_placed vertices edges));
      from_declared = rw (edges_is vertices edges, ids_of vertices edges) from;
      target_declared = rw (edges_is vertices edges, ids_of vertices edges) target;
    })

-- it is within the limits where they are
pub keeps_limits : (vertices : List (ℕ × ℤ)) (edges : List Edge) → AllByRecursion VertexFits vertices → AllByRecursion IsInRange edges
    → length vertices ≤ MAX_VERTICES → length edges ≤ MAX_EDGES → IsWithinLimits (graph_text vertices edges)
keeps_limits vertices edges h i few_vertices few_edges =
    subst AreWithinLimits (sym (all_said vertices edges h i)) (record {
      vertices = rw (declared_is vertices edges) few_vertices;
      edges = rw (edges_is vertices edges) few_edges;
    })
