-- Vertices, and the entries that they are.
use Rattle.std.proofs.Common.{inl, inr, ◌≡◌, ℕ, ◌+◌, ◌-◌, ◌<◌, ◌≤◌, List, [], ◌∷◌, ◌++◌, length, get_or, map, set, Result, Ok, Err, refl, ap, sym, ◌∙◌, arith}
use Rattle.std.specs.Prelude.{MatchOption, ℤ}
use Rattle.std.specs.List.{Contains}
use Rattle.std.specs.List.Sorted.{IsBinarySearchResult, IsStrictlyIncreasing}
use Rattle.std.specs.Ordering.{nat_cmp}
use Rattle.std.specs.Result.{result_ok}
use Rattle.std.proofs.Math.Seq.{map-set_same}
use Rattle.std.proofs.lemmas.Bool.{cases_lt}
use Rattle.std.proofs.lemmas.List.{get_or-map, get_or_default, length-map, map-set}
use Rattle.std.proofs.lemmas.List.Sorted.{searched}
use Rattle.std.proofs.lemmas.Map.Keys.{non_decreasing_from_sorted, sorted_from_strictly_increasing}
use Rattle.graph.specs.declared.vertex.Edge.{Edge}
use Rattle.graph.specs.declared.vertex.Vertex.{Vertex}
use Rattle.graph.specs.Entry.{Entry, end_of, entries_of, entry_of, ids, vertex_id}
use Rattle.graph.specs.inside.Placed.{none, push_end, set_edge}

pub ids_entries : (vertices : List Vertex) → ids (entries_of vertices) ≡ map vertex_id vertices
ids_entries [] = refl
ids_entries (vertex ∷ vertices) = ap (λ xs. vertex.id ∷ xs) (ids_entries vertices)

pub id_in_place : (vertices : List Vertex) (k : ℕ) (d : Vertex) → k < length vertices
    → get_or (ids (entries_of vertices)) k 0 ≡ (get_or vertices k d).id
id_in_place vertices k d below = ap (λ xs. get_or xs k 0) (ids_entries vertices) ∙ get_or-map vertex_id vertices k d 0 below

pub length_ids : (vertices : List Vertex) → length (ids (entries_of vertices)) ≡ length vertices
length_ids vertices = ap length (ids_entries vertices) ∙ length-map vertices vertex_id

pub rising_more : (numbers : List ℕ) (i : ℕ) → 0 < i → ((k : ℕ) → k + 1 < i → get_or numbers k 0 < get_or numbers (k + 1) 0)
    → get_or numbers (i - 1) 0 < get_or numbers i 0 → (k : ℕ) → k + 1 < i + 1 → get_or numbers k 0 < get_or numbers (k + 1) 0
rising_more numbers i some before here k below = elim (cases_lt (k + 1) i) [
  | inl less ↦ before k less
  | inr past ↦
      let last : k ≡ i - 1 = omega arith in
      let next : k + 1 ≡ i = omega arith in
      rw (next, last) here
]

pub not_rising : (numbers : List ℕ) (i : ℕ) → 0 < i → i < length numbers → get_or numbers i 0 ≤ get_or numbers (i - 1) 0 → IsStrictlyIncreasing numbers → ⊥
not_rising numbers i some below falls rise =
    let last : i - 1 + 1 ≡ i = omega arith in
    let up = rise (i - 1) (rw last below) in
    let same : get_or numbers (i - 1 + 1) 0 ≡ get_or numbers i 0 = ap (λ n. get_or numbers n 0) last in
    omega arith

pub found_place : (numbers : List ℕ) (number : ℕ) (r : Result ℕ ℕ) → IsStrictlyIncreasing numbers → IsBinarySearchResult (λ y. nat_cmp y number) numbers r
    → MatchOption (result_ok r) (Contains numbers number → ⊥) (λ place. (place < length numbers) × (get_or numbers place 0 ≡ number))
found_place numbers number (Ok place) rise h =
    searched numbers number (Ok place) h (λ i j before below. non_decreasing_from_sorted numbers (sorted_from_strictly_increasing numbers rise) i j 0 before below)
found_place numbers number (Err place) rise h = λ contains.
    let apart = searched numbers number (Err place) h (λ i j before below. non_decreasing_from_sorted numbers (sorted_from_strictly_increasing numbers rise) i j 0 before below) in
    let here : get_or numbers contains.0 0 ≡ number = get_or_default numbers contains.0 0 number contains.1 ∙ contains.2 in
    elim (cases_lt contains.0 place) [
      | inl before ↦ let less = apart.1 contains.0 before in omega arith
      | inr after ↦ let more = apart.2 contains.0 after contains.1 in omega arith
    ]

entry_same : (new : Vertex) (entry : Entry) → new.id ≡ entry.id → new.value ≡ entry.value → new.edges.items ≡ entry.edges → entry_of new ≡ entry
entry_same new entry a b d =
    ap (λ (n : ℕ). let made : Entry = record { id = n; value = new.value; edges = new.edges.items } in made) a
    ∙ ap (λ (v : ℤ). let made : Entry = record { id = entry.id; value = v; edges = new.edges.items } in made) b
    ∙ ap (λ (es : List (ℕ × ℤ)). let made : Entry = record { id = entry.id; value = entry.value; edges = es } in made) d

-- one edge more at a vertex
pub edge_pushed : (vertices : List Vertex) (source : ℕ) (old new : Vertex) (edge : Edge) → source < length vertices → old ≡ get_or vertices source old
    → new.id ≡ old.id → new.value ≡ old.value → new.edges.items ≡ old.edges.items ++ end_of edge ∷ []
    → entries_of (set vertices source new) ≡ set_edge (entries_of vertices) source edge
edge_pushed vertices source old new edge below is same_id same_value pushed =
    let there : get_or (entries_of vertices) source none ≡ entry_of old = get_or-map entry_of vertices source old none below ∙ ap entry_of (sym is) in
    let made : entry_of new ≡ push_end edge (entry_of old) = entry_same new (push_end edge (entry_of old)) same_id same_value pushed in
    map-set entry_of vertices source new ∙ ap (λ e. set (entries_of vertices) source e) (made ∙ ap (push_end edge) (sym there))

-- a vertex that only has room for more edges
pub room_made : (vertices : List Vertex) (place : ℕ) (old new : Vertex) → old ≡ get_or vertices place old
    → new.id ≡ old.id → new.value ≡ old.value → new.edges.items ≡ old.edges.items
    → entries_of (set vertices place new) ≡ entries_of vertices
room_made vertices place old new is same_id same_value same_edges =
    map-set_same entry_of vertices place new old (entry_same new (entry_of old) same_id same_value same_edges ∙ ap entry_of is)
