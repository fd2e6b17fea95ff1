-- Edges placed at the vertices of two stretches, side by side, and checked a chunk after another.
use Rattle.std.proofs.Common.{◌≡◌, ℕ, suc, ◌+◌, List, [], ◌∷◌, ◌++◌, get_or, map, ap, ap₂, sym, ◌∙◌, subst, arith, length-append}
use Rattle.std.specs.Prelude.{◌↔◌, flat_map}
use Rattle.std.specs.List.{All}
use Rattle.std.specs.List.Sorted.{IsStrictlyIncreasing}
use Rattle.std.proofs.lemmas.List.{get_or_append_left, map-append}
use Rattle.std.proofs.lemmas.List.Elements.{All-append, All-cons, All-head, All-nil, All-tail}
use Rattle.graph.specs.declared.vertex.Edge.{Edge}
use Rattle.graph.specs.declared.vertex.Vertex.{Vertex}
use Rattle.graph.specs.Entry.{entries_of, entry_of, id_at, ids}
use Rattle.graph.specs.inside.Placed.{PlacesEdges, with_edges}

front_rises : (front back : List ℕ) → IsStrictlyIncreasing (front ++ back) → IsStrictlyIncreasing front
front_rises front back rise = λ k below.
    let up = rise k (omega (arith, length-append front back)) in
    let here : get_or (front ++ back) k 0 ≡ get_or front k 0 = get_or_append_left front back 0 k (omega arith) in
    let next : get_or (front ++ back) (k + 1) 0 ≡ get_or front (k + 1) 0 = get_or_append_left front back 0 (k + 1) below in
    omega arith

back_rises : (front back : List ℕ) → IsStrictlyIncreasing (front ++ back) → IsStrictlyIncreasing back
back_rises [] back rise = rise
back_rises (n ∷ front) back rise = back_rises front back (λ k below.
    let next : suc k + 1 ≡ suc (k + 1) = omega arith in
    rw next at (rise (suc k) (omega arith)))

ids_apart : (front back : List Vertex) → ids (entries_of (front ++ back)) ≡ ids (entries_of front) ++ ids (entries_of back)
ids_apart front back = ap ids (map-append entry_of front back) ∙ map-append id_at (entries_of front) (entries_of back)

-- where the ids of vertices rise, those of a stretch do
pub first_rising : (all front back : List Vertex) → all ≡ front ++ back → IsStrictlyIncreasing (ids (entries_of all)) → IsStrictlyIncreasing (ids (entries_of front))
first_rising all front back cut rise =
    front_rises (ids (entries_of front)) (ids (entries_of back)) (subst (λ (numbers : List ℕ). IsStrictlyIncreasing numbers) (ap (λ vs. ids (entries_of vs)) cut ∙ ids_apart front back) rise)

pub others_rising : (all front back : List Vertex) → all ≡ front ++ back → IsStrictlyIncreasing (ids (entries_of all)) → IsStrictlyIncreasing (ids (entries_of back))
others_rising all front back cut rise =
    back_rises (ids (entries_of front)) (ids (entries_of back)) (subst (λ (numbers : List ℕ). IsStrictlyIncreasing numbers) (ap (λ vs. ids (entries_of vs)) cut ∙ ids_apart front back) rise)

-- the edges are placed where they are in both stretches
pub placed_both : (edges : List Edge) (all front back placed placed_back : List Vertex) → all ≡ front ++ back → PlacesEdges edges front placed
    → PlacesEdges edges back placed_back → PlacesEdges edges all (placed ++ placed_back)
placed_both edges all front back placed placed_back cut one other =
    map-append entry_of placed placed_back
    ∙ ap₂ ◌++◌ one other
    ∙ sym (map-append (with_edges edges) (entries_of front) (entries_of back))
    ∙ ap (map (with_edges edges)) (sym (map-append entry_of front back))
    ∙ ap (λ vs. map (with_edges edges) (entries_of vs)) (sym cut)

-- ---- chunks

All-front : {X : Type 0} (P : X → Type 0) (xs ys : List X) → All P (xs ++ ys) → All P xs
All-front P [] ys all = All-nil P
All-front P (x ∷ xs) ys all = All-cons P x xs (All-head P x (xs ++ ys) all) (All-front P xs ys (All-tail P x (xs ++ ys) all))

All-back : {X : Type 0} (P : X → Type 0) (xs ys : List X) → All P (xs ++ ys) → All P ys
All-back P [] ys all = all
All-back P (x ∷ xs) ys all = All-back P xs ys (All-tail P x (xs ++ ys) all)

all_in : {X : Type 0} (P : X → Type 0) (chunks : List (List X)) → All (All P) chunks → All P (flat_map (λ c. c) chunks)
all_in P [] each = All-nil P
all_in P (chunk ∷ chunks) each =
    All-append P chunk (flat_map (λ c. c) chunks) (All-head (All P) chunk chunks each) (all_in P chunks (All-tail (All P) chunk chunks each))

all_of : {X : Type 0} (P : X → Type 0) (chunks : List (List X)) → All P (flat_map (λ c. c) chunks) → All (All P) chunks
all_of P [] all = All-nil (All P)
all_of P (chunk ∷ chunks) all =
    All-cons (All P) chunk chunks (All-front P chunk (flat_map (λ c. c) chunks) all) (all_of P chunks (All-back P chunk (flat_map (λ c. c) chunks) all))

-- what holds of each element of each chunk holds of each element
pub all_in_chunks : {X : Type 0} (P : X → Type 0) (chunks : List (List X)) (xs : List X) → flat_map (λ c. c) chunks ≡ xs → All (All P) chunks ↔ All P xs
all_in_chunks P chunks xs whole = (λ each. subst (All P) whole (all_in P chunks each), λ all. all_of P chunks (subst (All P) (sym whole) all))
