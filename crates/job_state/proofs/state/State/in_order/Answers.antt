use Rattle.std.proofs.Common.{◌≡◌, List, [], ◌∷◌, ◌++◌, Bor, Ok, map, take, ap, sym, ◌∙◌, rules, subst}
use Rattle.std.specs.List.Sorted.{IsNonDecreasing, IsPermutation}
use Rattle.std.specs.declared.alloc.AllocError.{AllocError}
use Rattle.std.proofs.lemmas.Iterator.{YieldsList-from_slice}
use Rattle.std.proofs.lemmas.Iterator.Adapters.{fact_from_extend}
use Rattle.std.proofs.lemmas.Iterator.Consumers.{YieldsList-at}
use Rattle.std.proofs.lemmas.List.{append-nil, map-append, take_all, take_more}
use Rattle.std.proofs.lemmas.List.Concat.{flat_map-append}
use Rattle.std.proofs.lemmas.List.Sorted.{IsNonDecreasingBy-from_sort_by_key, IsPermutation-map}
use Rattle.std.proofs.lemmas.Simd.{map-map}
use Rattle.graph.specs.Partition.{joined}
use Rattle.graph.specs.inside.Rising.{keys_sorted, order_is}
use Rattle.job_state.specs.Ordering.{by_key}
use Rattle.job_state.specs.State.{Standing, state_id}
use Rattle.job_state.specs.declared.state.VertexState.{VertexState}
use Rattle.job_state.proofs.Ordering.{by_key_same}
use Rattle.job_state.proofs.state.State.in_order.Goals as goal

joined_more : (parts : List (List VertexState)) (part : List VertexState) → joined (parts ++ part ∷ []) ≡ joined parts ++ part
joined_more parts part =
    flat_map-append (λ (list : List VertexState). list) parts (part ∷ [])
    ∙ ap (λ own. joined parts ++ own) (append-nil part)

pub loop-part-preserved : goal.loop-part-preserved
loop-part-preserved c =
    let now = λ (vertex : Bor VertexState). vertex.now in
    let parts = c.deref-part-items.result.now in
    let before = take c.loop-part.part-index parts in
    let more = ap (λ (lists : List (List VertexState)). joined lists)
    (take_more parts c.loop-part.part-index c.part-item.result c.loop-part-test.true ∙ ap (λ part. before ++ part ∷ []) (sym c.part-item.is))
    ∙ joined_more before c.part-item.result in
    fact_from_extend {E = AllocError} now (Ok tt) c.in_ok-extend.ensures.ran (λ it b. YieldsList-at b (YieldsList-from_slice c.part-item.result (c.iter.ensures.rest ∙ c.as_slice.ensures)))
    (λ xs own gives.
    ap (map now) gives.0 ∙ map-append now c.loop-part.vertices.items xs ∙ (λ i. c.loop-part.invariant i ++ own i) ∙ sym more)

pub returns-clause-same : goal.returns-clause-same
returns-clause-same c =
    let now = λ (vertex : Bor VertexState). vertex.now in
    let key = λ (vertex : Bor VertexState). state_id vertex.now in
    let items = c.sort_by_cached_key.new.self.items in
    let all = joined c.self.inside.parts.items in
    let held : map now c.loop-part.vertices.items ≡ all =
    c.loop-part.invariant
    ∙ ap (λ (lists : List (List VertexState)). joined lists) (take_all _ _ c.loop-part-test.false ∙ c.deref-part-items.ensures.value) in
    let moved : IsPermutation all (map now items) =
    subst (λ xs. IsPermutation xs (map now items)) held (IsPermutation-map now _ _ c.sort_by_cached_key.ensures.permutation) in
    let up : IsNonDecreasing (map key items) =
    keys_sorted key items (IsNonDecreasingBy-from_sort_by_key key items c.in_ok-sort_by_cached_key.ensures.sorted (λ a r q k. search rules)) in
    let sorted : IsNonDecreasing (map state_id (map now items)) = subst IsNonDecreasing (sym (map-map state_id now items)) up in
    order_is state_id all (map now items) (by_key state_id all) moved sorted (by_key_same state_id all) c.self.invariant.state.rising
    ∙ ap (λ (state : Standing). state.vertices) c.self.view_is
