-- What is made of a file means the graph of its edges.
use Rattle.std.proofs.Common.{◌≡◌, ℕ, zero, suc, ◌+◌, ◌^◌, ◌<◌, ◌≤◌, max, Bool, true, false, cond, eqb, List, [], ◌∷◌, ◌++◌, length, get_or, map, Option, Some, None, refl, ap, subst, ◌∙◌, arith}
use Rattle.std.specs.Prelude.{ℤ, pos, FitsSigned}
use Rattle.std.specs.Int.{w64}
use Rattle.std.specs.List.{All, AllByRecursion, Contains, range_with_len}
use Rattle.std.proofs.Math.Nat.{div-le_self}
use Rattle.std.proofs.lemmas.List.{get_or-map, length-map}
use Rattle.std.proofs.lemmas.List.Elements.{All-append, All-contains, All-contains_itself, All-from_recursion, All-map, All-weaker, Contains-append_left, Contains-append_right, Contains-get_or, recursion_from_All}
use Rattle.graph.specs.declared.vertex.Edge.{Edge}
use Rattle.graph.specs.declared.vertex.TheConstants.{MAX_EDGES, MAX_VERTICES}
use Rattle.graph.specs.Graph.{IsGraphText, IsWithinLimits}
use Rattle.graph.specs.Print.{id_in}
use Rattle.conversions.specs.declared.graph_import.writing.Values.{Values}
use Rattle.conversions.specs.graph_import.Graph.{AreIdsOf, ends, from_of, graph_of, graph_text, share_of, shared, target_of, value_beside, valued, weighed}
use Rattle.graph.specs.inside.Ranges.{IsInRange}
use Rattle.conversions.proofs.Meaning.{VertexFits, keeps_limits, means_graph}

-- ---- ids

pub range_suc : (a n : ℕ) → range_with_len a (suc n) ≡ range_with_len a n ++ (a + n) ∷ []
range_suc a zero = let e : a ≡ a + 0 = omega arith in ap (λ x. x ∷ []) e
range_suc a (suc n) =
    let e : a + 1 + n ≡ a + suc n = omega arith in
    ap (λ xs. a ∷ xs) (range_suc (a + 1) n ∙ ap (λ x. range_with_len (a + 1) n ++ x ∷ []) e)

abbrev small : ℕ → Type 0
small id = id < 2 ^ 63

range_small : (start count : ℕ) → start + count ≤ 2 ^ 63 → AllByRecursion small (range_with_len start count)
range_small start zero h = tt
range_small start (suc count) h = (omega arith, range_small (start + 1) count (omega arith))

ends_small : (declared : ℕ) (edges : List Edge) → declared ≤ 1000000 → All IsInRange edges → All small (ends declared edges)
ends_small declared edges few fits =
    All-append small (map from_of edges ++ map target_of edges) (range_with_len 1 declared)
    (All-append small (map from_of edges) (map target_of edges)
    (All-map small from_of edges (All-weaker IsInRange (λ edge. small (from_of edge)) (λ edge h. h.from) edges fits))
    (All-map small target_of edges (All-weaker IsInRange (λ edge. small (target_of edge)) (λ edge h. h.target) edges fits)))
    (All-from_recursion small (range_with_len 1 declared) (range_small 1 declared (omega arith)))

ids_small : (numbers ids : List ℕ) → AreIdsOf numbers ids → All small numbers → All small ids
ids_small numbers ids are all = λ k d below.
    All-contains small numbers (get_or ids k d) all (are.only (get_or ids k d) (Contains-get_or ids k d below))

-- each edge begins, or leads, where one of them does
ends_in : (end : Edge → ℕ) (edges : List Edge) → All (λ edge. Contains (map end edges) (end edge)) edges
ends_in end edges = λ k d below.
    subst (Contains (map end edges)) (get_or-map end edges k d (end d) below)
    (All-contains_itself (map end edges) k (end d) (rw (length-map edges end) below))

from_known : (declared : ℕ) (edges : List Edge) (ids : List ℕ) → AreIdsOf (ends declared edges) ids
    → All (λ edge. Contains ids edge.from) edges
from_known declared edges ids are = λ k d below.
    are.all (get_or edges k d).from
    (Contains-append_left (map from_of edges ++ map target_of edges) (range_with_len 1 declared) _
    (Contains-append_left (map from_of edges) (map target_of edges) _ (ends_in from_of edges k d below)))

target_known : (declared : ℕ) (edges : List Edge) (ids : List ℕ) → AreIdsOf (ends declared edges) ids
    → All (λ edge. Contains ids edge.target) edges
target_known declared edges ids are = λ k d below.
    are.all (get_or edges k d).target
    (Contains-append_left (map from_of edges ++ map target_of edges) (range_with_len 1 declared) _
    (Contains-append_right (map from_of edges) (map target_of edges) _ (ends_in target_of edges k d below)))

-- ---- values

one_of_two : (b : Bool) (x y : ℤ) → FitsSigned w64 x → FitsSigned w64 y → FitsSigned w64 (cond b x y)
one_of_two true x y h i = h
one_of_two false x y h i = i

beside_fits : (source : Option ℕ) (other : ℤ) (id : ℕ) → FitsSigned w64 other → FitsSigned w64 (value_beside source other id)
beside_fits None other id h = h
beside_fits (Some source) other id h = one_of_two (eqb source id) (pos 0) other (record { sfits = omega arith }) h

vertices_fit : (values : Values) (ids : List ℕ) → FitsSigned w64 values.other → AllByRecursion small ids
    → AllByRecursion VertexFits (map (valued values) ids)
vertices_fit values [] h i = tt
vertices_fit values (id ∷ ids) h i =
    (record { id = i.0; value = beside_fits values.source values.other id h }, vertices_fit values ids h i.1)

ids_valued : (values : Values) (ids : List ℕ) → map id_in (map (valued values) ids) ≡ ids
ids_valued values [] = refl
ids_valued values (id ∷ ids) = ap (λ others. id ∷ others) (ids_valued values ids)

-- ---- shares

share_fits : (count : ℕ) → FitsSigned w64 (share_of count)
share_fits count = let below = div-le_self 4294967296 (max count 1) in record { sfits = omega arith }

shared_fit : (all edges : List Edge) → AllByRecursion IsInRange edges → AllByRecursion IsInRange (map (shared all) edges)
shared_fit all [] h = tt
shared_fit all (edge ∷ edges) h = (record { from = h.0.from; target = h.0.target; value = share_fits _ }, shared_fit all edges h.1)

weighed_fit : (shares : Bool) (edges : List Edge) → AllByRecursion IsInRange edges → AllByRecursion IsInRange (weighed shares edges)
weighed_fit true edges h = shared_fit edges edges h
weighed_fit false edges h = h

-- what holds of the ends of edges holds of them with their shares
weighed_keeps : (P : ℕ → ℕ → Type 0) (shares : Bool) (edges : List Edge) → All (λ edge. P edge.from edge.target) edges
    → All (λ edge. P edge.from edge.target) (weighed shares edges)
weighed_keeps P true edges h = All-map (λ edge. P edge.from edge.target) (shared edges) edges h
weighed_keeps P false edges h = h

weighed_length : (shares : Bool) (edges : List Edge) → length (weighed shares edges) ≡ length edges
weighed_length true edges = length-map edges (shared edges)
weighed_length false edges = refl

-- ---- the whole

-- the text of the edges that were read means their graph, within the limits
pub whole : (declared : ℕ) (edges : List Edge) (ids : List ℕ) (values : Values) (shares : Bool) → declared ≤ 1000000
    → All IsInRange edges → AreIdsOf (ends declared edges) ids → FitsSigned w64 values.other → length ids ≤ MAX_VERTICES
    → length edges ≤ MAX_EDGES
    → IsGraphText (graph_text (map (valued values) ids) (weighed shares edges)) (graph_of (map (valued values) ids) (weighed shares edges))
    × IsWithinLimits (graph_text (map (valued values) ids) (weighed shares edges))
whole declared edges ids values shares few fits are other few_ids few_edges =
    let ranged = ids_small (ends declared edges) ids are (ends_small declared edges few fits) in
    let vertices = vertices_fit values ids other (recursion_from_All small ids ranged) in
    let placed = weighed_fit shares edges (recursion_from_All IsInRange edges fits) in
    let same = ids_valued values ids in (
      means_graph (map (valued values) ids) (weighed shares edges) vertices placed (rw same are.rising)
          (rw same (weighed_keeps (λ from target. Contains ids from) shares edges (from_known declared edges ids are)))
          (rw same (weighed_keeps (λ from target. Contains ids target) shares edges (target_known declared edges ids are))),
      keeps_limits (map (valued values) ids) (weighed shares edges) vertices placed (rw (length-map ids (valued values)) few_ids)
          (rw (weighed_length shares edges) few_edges),
    )
