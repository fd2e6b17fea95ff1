-- The graph of what lines say.
use Rattle.std.proofs.Common.{◌≡◌, ℕ, List, [], ◌∷◌, ◌++◌, length, take, drop, map, true, refl, ap, sym, subst, ◌∙◌, arith}
use Rattle.std.specs.Prelude.{ℤ}
use Rattle.std.specs.List.{All, AllByRecursion}
use Rattle.std.specs.List.Sorted.{IsNonDecreasing, IsPermutation, IsStrictlyIncreasing}
use Rattle.std.proofs.lemmas.List.{append-nil, drop_all, length-map, take_all}
use Rattle.std.proofs.lemmas.List.Elements.{All-from_recursion, recursion_from_All}
use Rattle.std.proofs.lemmas.List.Sorted.{All-permutation, IsPermutation-map, IsPermutation-sym, IsPermutation-trans}
use Rattle.std.proofs.lemmas.Map.Keys.{non_decreasing_from_sorted, sorted_from_strictly_increasing}
use Rattle.graph.specs.declared.collect.Collected.{Collected}
use Rattle.graph.specs.declared.line.Line.{Line}
use Rattle.graph.specs.declared.vertex.Edge.{Edge}
use Rattle.graph.specs.declared.vertex.Vertex.{Vertex}
use Rattle.graph.specs.inside.Collected.{CanBeSaid, Says, bare}
use Rattle.graph.specs.Entry.{Entry, edges_from, entries_of, entry_of, head_of, heads, ids, vertex_id}
use Rattle.graph.specs.Graph.{IsSaid}
use Rattle.graph.specs.Line.{is_good}
use Rattle.graph.specs.inside.Placed.{HasEnds, HaveEnds, PlacesEdges, with_edges}
use Rattle.graph.specs.inside.Read.{AreRead, AreSorted, ReadsNoGraph}
use Rattle.graph.specs.Said.{all_declared, all_edges, lines_of}
use Rattle.graph.specs.inside.Rising.{rising_same, sorted_same}
use Rattle.graph.proofs.Vertices.{ids_entries}

abbrev id_of_head : ℕ × ℤ → ℕ
id_of_head head = head.0

ids-heads : (graph : List Entry) → map id_of_head (heads graph) ≡ ids graph
ids-heads [] = refl
ids-heads (entry ∷ graph) = ap (λ xs. entry.id ∷ xs) (ids-heads graph)

heads-bare : (declared : List (ℕ × ℤ)) → heads (map bare declared) ≡ declared
heads-bare [] = refl
heads-bare (head ∷ declared) = ap (λ xs. head ∷ xs) (heads-bare declared)

heads-with_edges : (edges : List Edge) (graph : List Entry) → heads (map (with_edges edges) graph) ≡ heads graph
heads-with_edges edges [] = refl
heads-with_edges edges (entry ∷ graph) = ap (λ xs. head_of entry ∷ xs) (heads-with_edges edges graph)

pub ids-with_edges : (edges : List Edge) (graph : List Entry) → ids (map (with_edges edges) graph) ≡ ids graph
ids-with_edges edges [] = refl
ids-with_edges edges (entry ∷ graph) = ap (λ xs. entry.id ∷ xs) (ids-with_edges edges graph)

-- a vertex of a graph that lines say, by its head
abbrev of_head : List Edge → ℕ × ℤ → Entry
of_head edges head = record { id = head.0; value = head.1; edges = edges_from edges head.0 }

of_heads : (edges : List Edge) (graph : List Entry) → AllByRecursion (λ entry. entry.edges ≡ edges_from edges entry.id) graph → graph ≡ map (of_head edges) (heads graph)
of_heads edges [] h = refl
of_heads edges (entry ∷ graph) h =
    let here : entry ≡ of_head edges (head_of entry) = ap (λ (es : List (ℕ × ℤ)). let made : Entry = record { id = entry.id; value = entry.value; edges = es } in made) h.0 in
    ap (λ e. e ∷ graph) here ∙ ap (λ es. of_head edges (head_of entry) ∷ es) (of_heads edges graph h.1)

pub says_one : (lines : List Line) (first second : List Entry) → IsSaid lines first → IsSaid lines second → first ≡ second
says_one lines first second a b =
    let same : heads first ≡ heads second =
    rising_same id_of_head (heads first) (heads second) (rw (ids-heads first) a.rising) (rw (ids-heads second) b.rising)
    (IsPermutation-trans _ _ _ (IsPermutation-sym _ _ a.vertices) b.vertices) in
    of_heads (all_edges lines) first (recursion_from_All _ first a.edges)
    ∙ ap (λ hs. map (of_head (all_edges lines)) hs) same
    ∙ sym (of_heads (all_edges lines) second (recursion_from_All _ second b.edges))

-- What was collected of lines, sorted by id.
pub record IsSorted (lines : List Line) (sorted : List Entry) : Type 0 where
  pub permutation : IsPermutation (map bare (all_declared lines)) sorted
  pub ordered : IsNonDecreasing (ids sorted)

sorted_heads : (lines : List Line) (sorted : List Entry) → IsSorted lines sorted → IsPermutation (all_declared lines) (heads sorted)
sorted_heads lines sorted h =
    subst (λ hs. IsPermutation hs (heads sorted)) (heads-bare (all_declared lines)) (IsPermutation-map head_of (map bare (all_declared lines)) sorted h.permutation)

-- the ids of the graph that the lines say are those that were sorted
same_ids : (lines : List Line) (sorted graph : List Entry) → IsSorted lines sorted → IsSaid lines graph → ids sorted ≡ ids graph
same_ids lines sorted graph h said =
    let same : heads sorted ≡ heads graph =
    sorted_same id_of_head (heads sorted) (heads graph) (rw (ids-heads sorted) h.ordered) (rw (ids-heads graph) said.rising)
    (IsPermutation-trans _ _ _ (IsPermutation-sym _ _ (sorted_heads lines sorted h)) said.vertices) in
    sym (ids-heads sorted) ∙ ap (λ hs. map id_of_head hs) same ∙ ids-heads graph

declared_twice : (lines : List Line) (sorted graph : List Entry) → IsSorted lines sorted → (IsStrictlyIncreasing (ids sorted) → ⊥) → IsSaid lines graph → ⊥
declared_twice lines sorted graph h twice said = twice (rw (same_ids lines sorted graph h said) said.rising)

unknown_end : (lines : List Line) (sorted graph : List Entry) → IsSorted lines sorted → (All (HasEnds (ids sorted)) (all_edges lines) → ⊥) → IsSaid lines graph → ⊥
unknown_end lines sorted graph h unknown said =
    let ends : All (HasEnds (ids graph)) (all_edges lines) =
    λ k d below. record { from = said.from_declared k d below; target = said.target_declared k d below } in
    unknown (rw (same_ids lines sorted graph h said) ends)

bare_edges : (declared : List (ℕ × ℤ)) → AllByRecursion (λ (entry : Entry). entry.edges ≡ []) (map bare declared)
bare_edges [] = tt
bare_edges (head ∷ declared) = (refl, bare_edges declared)

edges-with_edges : (edges : List Edge) (graph : List Entry) → AllByRecursion (λ entry. entry.edges ≡ []) graph
    → AllByRecursion (λ entry. entry.edges ≡ edges_from edges entry.id) (map (with_edges edges) graph)
edges-with_edges edges [] h = tt
edges-with_edges edges (entry ∷ graph) h = (ap (λ es. es ++ edges_from edges entry.id) h.0, edges-with_edges edges graph h.1)

is_said : (lines : List Line) (sorted graph : List Entry) → All (λ line. is_good line ≡ true) lines → IsSorted lines sorted
    → IsStrictlyIncreasing (ids sorted) → All (HasEnds (ids sorted)) (all_edges lines) → graph ≡ map (with_edges (all_edges lines)) sorted → IsSaid lines graph
is_said lines sorted graph good h rising ends placed =
    let none : All (λ (entry : Entry). entry.edges ≡ []) sorted =
    All-permutation (λ entry. entry.edges ≡ []) (map bare (all_declared lines)) sorted h.permutation (All-from_recursion _ _ (bare_edges (all_declared lines))) in
    let same : ids graph ≡ ids sorted = ap ids placed ∙ ids-with_edges (all_edges lines) sorted in
    record {
      good = good;
      rising = rw same rising;
      vertices = rw (placed, heads-with_edges (all_edges lines) sorted) (sorted_heads lines sorted h);
      edges = rw placed (All-from_recursion _ _ (edges-with_edges (all_edges lines) sorted (recursion_from_All _ sorted none)));
      from_declared = rw same (λ k d below. (ends k d below).from);
      target_declared = rw same (λ k d below. (ends k d below).target);
    }

-- ---- from what was collected of a text to what is read

pub sorted_from : (lines : List Line) (collected : Collected) (sorted : List Vertex) → Says lines collected
    → IsPermutation collected.vertices.items sorted → IsNonDecreasing (map vertex_id sorted) → IsSorted lines (entries_of sorted)
sorted_from lines collected sorted says same ordered = record {
  permutation = rw says.vertices at (IsPermutation-map entry_of _ _ same);
  ordered = rw (ids_entries sorted) ordered;
}

pub are_sorted : (lines : List Line) (collected sorted : Collected) → Says lines collected → IsPermutation collected.vertices.items sorted.vertices.items
    → IsStrictlyIncreasing (ids (entries_of sorted.vertices.items)) → sorted.edges.items ≡ collected.edges.items → AreSorted lines sorted
are_sorted lines collected sorted says same rising edges = record {
  can = says.can;
  vertices = rw says.vertices at (IsPermutation-map entry_of _ _ same);
  rising = rising;
  edges = edges ∙ says.edges;
}

sorted_too : (lines : List Line) (sorted : Collected) → AreSorted lines sorted → IsSorted lines (entries_of sorted.vertices.items)
sorted_too lines sorted are = record {
  permutation = are.vertices;
  ordered = non_decreasing_from_sorted _ (sorted_from_strictly_increasing _ are.rising);
}

-- what cannot be said is no graph's text
pub says_none : (text : List ℕ) → (CanBeSaid (lines_of text) → ⊥) → ReadsNoGraph text
says_none text cannot = λ graph said within. cannot (record { good = said.good; within = within })

pub twice_none : (text : List ℕ) (sorted : List Entry) → IsSorted (lines_of text) sorted → (IsStrictlyIncreasing (ids sorted) → ⊥) → ReadsNoGraph text
twice_none text sorted h twice = λ graph said within. declared_twice (lines_of text) sorted graph h twice said

pub unknown_none : (text : List ℕ) (sorted : Collected) → AreSorted (lines_of text) sorted → (HaveEnds sorted.vertices.items sorted.edges.items → ⊥) → ReadsNoGraph text
unknown_none text sorted are unknown = λ graph said within.
    unknown_end (lines_of text) (entries_of sorted.vertices.items) graph (sorted_too (lines_of text) sorted are) (rw are.edges at unknown) said

-- what a list of vertices holds whose places were written
kept_whole : (count : ℕ) (old new : List Vertex) → count ≡ length old → length new ≡ length old → take count (new ++ drop (length new) old) ≡ new
kept_whole count old new all same =
    ap (λ vs. take count (new ++ vs)) (drop_all (length new) old (omega arith)) ∙ ap (take count) (append-nil new) ∙ take_all count new (omega arith)

same_length : (edges : List Edge) (old new : List Vertex) → PlacesEdges edges old new → length new ≡ length old
same_length edges old new places =
    omega (arith, length-map new entry_of, ap length places, length-map (entries_of old) (with_edges edges), length-map old entry_of)

pub reads_graph : (text : List ℕ) (sorted : Collected) (placed : List Vertex) → AreSorted (lines_of text) sorted → HaveEnds sorted.vertices.items sorted.edges.items
    → PlacesEdges sorted.edges.items sorted.vertices.items placed
    → AreRead text (entries_of (take sorted.vertices.len (placed ++ drop (length placed) sorted.vertices.items)))
reads_graph text sorted placed are ends places =
    let whole = kept_whole sorted.vertices.len sorted.vertices.items placed (omega (arith, sorted.vertices.ok.0)) (same_length sorted.edges.items sorted.vertices.items placed places) in
    rw whole (record {
      means = is_said (lines_of text) (entries_of sorted.vertices.items) (entries_of placed) are.can.good (sorted_too (lines_of text) sorted are) are.rising
          (rw are.edges at ends) (rw are.edges at places);
      within = are.can.within;
    })
