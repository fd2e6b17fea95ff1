-- A graph that a text within the limits means is within them.
use Rattle.std.proofs.Common.{inl, inr, ◌≡◌, ℕ, ◌+◌, ◌<◌, ◌≤◌, cond, eqb, List, [], ◌∷◌, length, refl, ap, arith}
use Rattle.std.specs.List.{AllByRecursion}
use Rattle.std.proofs.lemmas.Bool.{ne_eqb}
use Rattle.std.proofs.lemmas.Bool.Decides.{eqb_tells}
use Rattle.std.proofs.lemmas.List.{length-map}
use Rattle.std.proofs.lemmas.List.Elements.{recursion_from_All}
use Rattle.std.proofs.lemmas.List.Sorted.{length_permutation}
use Rattle.std.proofs.lemmas.List.Sums.{sum_by-cons}
use Rattle.graph.specs.declared.line.Line.{Line}
use Rattle.graph.specs.declared.vertex.Edge.{Edge}
use Rattle.graph.specs.Entry.{Entry, FitsLimits, edge_count, edges_from, head_of, heads, id_at}
use Rattle.graph.specs.Graph.{AreWithinLimits, IsSaid}
use Rattle.graph.specs.Said.{all_declared, all_edges}
use Rattle.graph.specs.inside.Rising.{Rises, rises_from}

-- how many of the vertices have this id
abbrev having : ℕ → List Entry → ℕ
having id [] = 0
having id (entry ∷ graph) = cond (eqb id entry.id) 1 0 + having id graph

none_above : (id : ℕ) (graph : List Entry) → AllByRecursion (λ entry. id < entry.id) graph → having id graph ≡ 0
none_above id [] above = refl
none_above id (entry ∷ graph) above =
    let apart = ne_eqb id entry.id (λ e. let less = above.0 in omega arith) in
    rw (apart, none_above id graph above.1) refl

one_at_most : (id : ℕ) (graph : List Entry) → Rises id_at graph → having id graph ≤ 1
one_at_most id [] rise = omega arith
one_at_most id (entry ∷ graph) rise = elim (eqb_tells id entry.id) [
  | inl h ↦
      let none : having id graph ≡ 0 = none_above id graph (rw h.1 rise.0) in
      rw (h.0, none) (omega arith)
  | inr h ↦ let others = one_at_most id graph rise.1 in rw h.0 (omega arith)
]

-- how many of these edges leave the vertices
abbrev leaving : List Edge → List Entry → ℕ
leaving edges [] = 0
leaving edges (entry ∷ graph) = length (edges_from edges entry.id) + leaving edges graph

leaving_none : (graph : List Entry) → leaving [] graph ≡ 0
leaving_none [] = refl
leaving_none (entry ∷ graph) = rw (leaving_none graph) refl

from_more : (edge : Edge) (edges : List Edge) (id : ℕ) → length (edges_from (edge ∷ edges) id) ≡ cond (eqb edge.from id) 1 0 + length (edges_from edges id)
from_more edge edges id = elim (eqb_tells edge.from id) [
  | inl h ↦ rw h.0 (omega arith)
  | inr h ↦ rw h.0 (omega arith)
]

leaving_more : (edge : Edge) (edges : List Edge) (graph : List Entry) → leaving (edge ∷ edges) graph ≡ having edge.from graph + leaving edges graph
leaving_more edge edges [] = refl
leaving_more edge edges (entry ∷ graph) =
    let here = from_more edge edges entry.id in
    let others = leaving_more edge edges graph in
    omega arith

each_leaves_one : (edges : List Edge) (graph : List Entry) → Rises id_at graph → leaving edges graph ≤ length edges
each_leaves_one [] graph rise = rw (leaving_none graph) (omega arith)
each_leaves_one (edge ∷ edges) graph rise =
    let more = leaving_more edge edges graph in
    let one = one_at_most edge.from graph rise in
    let others = each_leaves_one edges graph rise in
    omega arith

counted : (edges : List Edge) (graph : List Entry) → AllByRecursion (λ entry. entry.edges ≡ edges_from edges entry.id) graph → edge_count graph ≡ leaving edges graph
counted edges [] own = refl
counted edges (entry ∷ graph) own =
    let first : length entry.edges ≡ length (edges_from edges entry.id) = ap length own.0 in
    let others = counted edges graph own.1 in
    let sum = sum_by-cons (λ (entry : Entry). length entry.edges) entry graph in
    omega arith

pub said_fits : (lines : List Line) (graph : List Entry) → IsSaid lines graph → AreWithinLimits lines → FitsLimits graph
said_fits lines graph said within =
    let declared = length_permutation (all_declared lines) (heads graph) said.vertices in
    let rise = rises_from id_at graph said.rising in
    let most = each_leaves_one (all_edges lines) graph rise in
    let count = counted (all_edges lines) graph (recursion_from_All _ graph said.edges) in
    record {
      vertices = omega (arith, within.vertices, length-map graph head_of);
      edges = omega (arith, within.edges);
    }
