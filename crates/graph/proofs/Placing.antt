-- Edges, one after another, at the vertices that they leave.
use Rattle.std.proofs.Common.{inl, inr, ◌≡◌, ◌≢◌, ℕ, suc, ◌+◌, ◌-◌, ◌<◌, ◌≤◌, List, [], ◌∷◌, ◌++◌, length, take, get_or, map, Option, Some, None, true, false, cond, refl, ap, sym, ◌∙◌, arith, eqb, append_assoc}
use Rattle.std.specs.Prelude.{◌↔◌, ℤ, Bool, IsTrue, MatchOption, is_some, not, pos, filter}
use Rattle.std.specs.List.{All, Contains}
use Rattle.std.specs.List.Sorted.{IsStrictlyIncreasing}
use Rattle.std.proofs.lemmas.Bool.{cases_lt, false≢true, ne_eqb}
use Rattle.std.proofs.lemmas.Bool.Decides.{eqb_tells}
use Rattle.std.proofs.lemmas.List.{append-nil, same_lists, take_all, take_more, get_or-map, get_or-set_same, get_or-set_other, map-append, length-map, length-set, get_or_default}
use Rattle.std.proofs.lemmas.List.Elements.{filter-append}
use Rattle.std.proofs.lemmas.List.Kept.{AllPairs-from_increasing}
use Rattle.graph.specs.declared.vertex.Edge.{Edge}
use Rattle.graph.specs.declared.vertex.Vertex.{Vertex}
use Rattle.graph.specs.Entry.{Entry, edges_from, end_of, entries_of, entry_of, id_at, ids}
use Rattle.graph.specs.inside.Rising.{equal}
use Rattle.graph.specs.inside.Placed.{HasEnds, IsFirstUnknown, IsInSpan, LeavesAt, none, push_end, set_edge, with_edges}

edges_from-push : (edges : List Edge) (edge : Edge) (id : ℕ)
    → edges_from (edges ++ edge ∷ []) id ≡ edges_from edges id ++ map end_of (filter (λ e. eqb e.from id) (edge ∷ []))
edges_from-push edges edge id =
    ap (λ es. map end_of es) (filter-append (λ e. eqb e.from id) edges (edge ∷ [])) ∙ map-append end_of (filter (λ e. eqb e.from id) edges) (filter (λ e. eqb e.from id) (edge ∷ []))

with-hit : (edges : List Edge) (edge : Edge) (entry : Entry) → eqb edge.from entry.id ≡ true
    → with_edges (edges ++ edge ∷ []) entry ≡ push_end edge (with_edges edges entry)
with-hit edges edge entry hit =
    ap (λ (es : List (ℕ × ℤ)). let made : Entry = record { id = entry.id; value = entry.value; edges = es } in made)
    (ap (λ es. entry.edges ++ es) (edges_from-push edges edge entry.id ∙ ap (λ b. edges_from edges entry.id ++ map end_of (cond b (edge ∷ []) [])) hit)
    ∙ sym (append_assoc entry.edges (edges_from edges entry.id) (end_of edge ∷ [])))

with-miss : (edges : List Edge) (edge : Edge) (entry : Entry) → eqb edge.from entry.id ≡ false
    → with_edges (edges ++ edge ∷ []) entry ≡ with_edges edges entry
with-miss edges edge entry miss =
    ap (λ (es : List (ℕ × ℤ)). let made : Entry = record { id = entry.id; value = entry.value; edges = es } in made)
    (ap (λ es. entry.edges ++ es) (edges_from-push edges edge entry.id ∙ ap (λ b. edges_from edges entry.id ++ map end_of (cond b (edge ∷ []) [])) miss ∙ append-nil (edges_from edges entry.id)))

id_there : (graph : List Entry) (j : ℕ) (d : Entry) → j < length graph → get_or (ids graph) j 0 ≡ (get_or graph j d).id
id_there graph j d below = get_or-map id_at graph j d 0 below

-- rising ids in two places differ
apart_ids : (graph : List Entry) (j place : ℕ) (d : Entry) → IsStrictlyIncreasing (ids graph) → j < length graph → place < length graph
    → (get_or graph j d).id ≡ (get_or graph place d).id → j ≢ place → ⊥
apart_ids graph j place d rise within below e apart =
    let pairs = AllPairs-from_increasing (ids graph) rise in
    let same : get_or (ids graph) j 0 ≡ get_or (ids graph) place 0 = id_there graph j d within ∙ e ∙ sym (id_there graph place d below) in
    elim (cases_lt j place) [
      | inl before ↦ let less = pairs j place 0 before (rw (length-map graph id_at) below) in omega arith
      | inr after ↦ let less = pairs place j 0 (omega arith) (rw (length-map graph id_at) within) in omega arith
    ]

-- the entry that stands there after one edge more
placed_at : (graph : List Entry) (edges : List Edge) (edge : Edge) (place j : ℕ) (d : Entry) → IsStrictlyIncreasing (ids graph)
    → place < length graph → get_or (ids graph) place 0 ≡ edge.from → j < length graph
    → get_or (set_edge (map (with_edges edges) graph) place edge) j d ≡ with_edges (edges ++ edge ∷ []) (get_or graph j d)
placed_at graph edges edge place j d rise below is_from within = elim (eqb_tells j place) [
  | inl h ↦
      let here = h.1 in
      let hit : eqb edge.from (get_or graph place d).id ≡ true = equal edge.from (get_or graph place d).id (sym is_from ∙ id_there graph place d below) in
      rw here (get_or-set_same (map (with_edges edges) graph) place (push_end edge (get_or (map (with_edges edges) graph) place none)) d (rw (length-map graph (with_edges edges)) below)
      ∙ ap (push_end edge) (get_or-map (with_edges edges) graph place d none below)
      ∙ sym (with-hit edges edge (get_or graph place d) hit))
  | inr h ↦
      let miss : eqb edge.from (get_or graph j d).id ≡ false = ne_eqb edge.from (get_or graph j d).id (λ e. apart_ids graph j place d rise within below (sym e ∙ sym is_from ∙ id_there graph place d below) h.1) in
      get_or-set_other (map (with_edges edges) graph) place j (push_end edge (get_or (map (with_edges edges) graph) place none)) d h.1
      ∙ get_or-map (with_edges edges) graph j d d within
      ∙ sym (with-miss edges edge (get_or graph j d) miss)
]

pub placed_one : (graph : List Entry) (edges : List Edge) (edge : Edge) (place : ℕ) → IsStrictlyIncreasing (ids graph)
    → place < length graph → get_or (ids graph) place 0 ≡ edge.from
    → set_edge (map (with_edges edges) graph) place edge ≡ map (with_edges (edges ++ edge ∷ [])) graph
placed_one graph edges edge place rise below is_from =
    let count : length (set_edge (map (with_edges edges) graph) place edge) ≡ length graph =
    length-set (map (with_edges edges) graph) place (push_end edge (get_or (map (with_edges edges) graph) place none)) ∙ length-map graph (with_edges edges) in
    same_lists _ _ (count ∙ sym (length-map graph (with_edges (edges ++ edge ∷ []))))
    (λ j d short. let within : j < length graph = rw count at short in
    placed_at graph edges edge place j d rise below is_from within
    ∙ sym (get_or-map (with_edges (edges ++ edge ∷ [])) graph j d d within))

-- what a read past the edges gives
abbrev pub no_edge : Edge
no_edge = record { from = 0; target = 0; value = pos 0 }

pub with_none : (graph : List Entry) → map (with_edges []) graph ≡ graph
with_none [] = refl
with_none (entry ∷ graph) =
    let same : with_edges [] entry ≡ entry = ap (λ (es : List (ℕ × ℤ)). let made : Entry = record { id = entry.id; value = entry.value; edges = es } in made) (append-nil entry.edges) in
    ap (λ e. e ∷ map (with_edges []) graph) same ∙ ap (λ es. entry ∷ es) (with_none graph)

-- an edge from one of the vertices is placed
pub placed_more : (before now : List Entry) (edges : List Edge) (count place : ℕ) (d : Edge) → IsStrictlyIncreasing (ids before)
    → now ≡ map (with_edges (take count edges)) before → count < length edges → place < length (ids before)
    → get_or (ids before) place 0 ≡ (get_or edges count d).from
    → set_edge now place (get_or edges count d) ≡ map (with_edges (take (count + 1) edges)) before
placed_more before now edges count place d rise placed short below is_from =
    let edge = get_or edges count d in
    ap (λ es. set_edge es place edge) placed
    ∙ placed_one before (take count edges) edge place rise (rw (length-map before id_at) at below) is_from
    ∙ ap (λ es. map (with_edges es) before) (sym (take_more edges count d short))

others_same : (graph : List Entry) (edges : List Edge) (edge : Edge) → (Contains (ids graph) edge.from → ⊥)
    → map (with_edges (edges ++ edge ∷ [])) graph ≡ map (with_edges edges) graph
others_same [] edges edge stranger = refl
others_same (entry ∷ graph) edges edge stranger =
    let miss : eqb edge.from entry.id ≡ false = ne_eqb edge.from entry.id (λ e. stranger (0, omega arith, sym e)) in
    ap (λ e. e ∷ map (with_edges (edges ++ edge ∷ [])) graph) (with-miss edges edge entry miss)
    ∙ ap (λ es. with_edges edges entry ∷ es) (others_same graph edges edge (λ there. stranger (suc there.0, omega (arith, there.1), there.2)))

-- an edge from no vertex of these is not placed
pub placed_elsewhere : (before now : List Entry) (edges : List Edge) (count : ℕ) (d : Edge) → now ≡ map (with_edges (take count edges)) before
    → count < length edges → (Contains (ids before) (get_or edges count d).from → ⊥) → now ≡ map (with_edges (take (count + 1) edges)) before
placed_elsewhere before now edges count d placed short stranger =
    placed ∙ sym (others_same before (take count edges) (get_or edges count d) stranger) ∙ ap (λ es. map (with_edges es) before) (sym (take_more edges count d short))

pub placed_here : (before : List Entry) (now : List Vertex) (edges : List Edge) (count place : ℕ) → entries_of now ≡ map (with_edges (take count edges)) before
    → place < length (ids before) → place < length now
placed_here before now edges count place placed below =
    omega (arith, length-map now entry_of, ap length placed, length-map before (with_edges (take count edges)), length-map before id_at)

-- all edges have been gone over
pub placed_all : (before now : List Entry) (edges : List Edge) (count : ℕ) → now ≡ map (with_edges (take count edges)) before → length edges ≤ count
    → now ≡ map (with_edges edges) before
placed_all before now edges count placed past = placed ∙ ap (λ es. map (with_edges es) before) (take_all count edges past)

-- ---- the ends of edges

-- the edge leaves the vertex whose id is in this place
pub ends_from : (numbers : List ℕ) (edge : Edge) (place : ℕ) → LeavesAt numbers edge place → HasEnds numbers edge
ends_from numbers edge place leaves = record {
  from = (place, leaves.0, get_or_default numbers place edge.from 0 leaves.0 ∙ leaves.1);
  target = leaves.2;
}

-- an edge with an unknown end, behind edges without one
pub first_from : (numbers : List ℕ) (edges : List Edge) (place : ℕ) (e : Edge) → place < length edges → All (HasEnds numbers) (take place edges)
    → (Contains numbers (get_or edges place e).from → Contains numbers (get_or edges place e).target → ⊥) → IsFirstUnknown numbers edges place
first_from numbers edges place e below before unknown = record {
  below = below;
  before = before;
  unknown = λ d has. let same : get_or edges place d ≡ get_or edges place e = get_or_default edges place d e below in
      unknown (rw same at has.from) (rw same at has.target);
}

pub ends_fail : (numbers : List ℕ) (edges : List Edge) (place : ℕ) → IsFirstUnknown numbers edges place → All (HasEnds numbers) edges → ⊥
ends_fail numbers edges place first ends = first.unknown no_edge (ends place no_edge first.below)

-- no unknown end was found
pub none_unknown : (numbers : List ℕ) (edges : List Edge) (found : Option ℕ) (answer : Bool) → is_some found ≡ not answer
    → MatchOption found (All (HasEnds numbers) edges) (IsFirstUnknown numbers edges) → IsTrue answer ↔ All (HasEnds numbers) edges
none_unknown numbers edges None true e ends = (λ _. ends, λ _. refl)
none_unknown numbers edges None false e ends = absurd (false≢true e)
none_unknown numbers edges (Some place) true e first = absurd (false≢true (sym e))
none_unknown numbers edges (Some place) false e first = (λ no. absurd (false≢true no), λ ends. absurd (ends_fail numbers edges place first ends))

-- ids that rise are from the first to the last
pub in_span : (numbers : List ℕ) (id : ℕ) → IsStrictlyIncreasing numbers → Contains numbers id → IsInSpan numbers id
in_span numbers id rise there =
    let k = there.0 in
    let below : k < length numbers = there.1 in
    let here : get_or numbers k 0 ≡ id = get_or_default numbers k 0 id below ∙ there.2 in
    let pairs = AllPairs-from_increasing numbers rise in
    let low : get_or numbers 0 0 ≤ get_or numbers k 0 = elim (cases_lt 0 k) [
      | inl after ↦ let up = pairs 0 k 0 after below in omega arith
      | inr first ↦ let same : k ≡ 0 = omega arith in rw same (omega arith)
    ] in
    let high : get_or numbers k 0 ≤ get_or numbers (length numbers - 1) 0 = elim (cases_lt k (length numbers - 1)) [
      | inl before ↦ let up = pairs k (length numbers - 1) 0 before (omega arith) in omega arith
      | inr last ↦ let same : k ≡ length numbers - 1 = omega arith in rw same (omega arith)
    ] in
    (omega arith, omega arith, omega arith)
