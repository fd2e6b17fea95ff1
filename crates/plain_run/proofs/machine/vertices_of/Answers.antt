use Rattle.std.proofs.Common.{◌≡◌, List, [], ◌∷◌, ◌++◌, Bor, Ok, map, take, ap, sym, ◌∙◌, rules, subst}
use Rattle.std.specs.List.Sorted.{IsNonDecreasing, IsPermutation}
use Rattle.std.specs.declared.alloc.AllocError.{AllocError}
use Rattle.std.proofs.lemmas.Iterator.{YieldsList-from_slice}
use Rattle.std.proofs.lemmas.Iterator.Adapters.{fact_from_extend}
use Rattle.std.proofs.lemmas.Iterator.Consumers.{YieldsList-at}
use Rattle.std.proofs.lemmas.List.{append-nil, map-append, take_all, take_more}
use Rattle.std.proofs.lemmas.List.Concat.{flat_map-append}
use Rattle.std.proofs.lemmas.List.Sorted.{IsNonDecreasingBy-from_sort_by_key, IsPermutation-map}
use Rattle.std.proofs.lemmas.Simd.{map-map}
use Rattle.graph.specs.declared.parts.Part.{Part}
use Rattle.graph.specs.declared.vertex.Vertex.{Vertex}
use Rattle.graph.specs.Partition.{joined}
use Rattle.graph.specs.Entry.{Entry, entry_of, id_at}
use Rattle.graph.specs.inside.Rising.{keys_sorted, order_is}
use Rattle.superstep.specs.Job.{IsGraphOf}
use Rattle.plain_run.specs.inside.OneMachine.{entry_now, id_now}
use Rattle.superstep.proofs.Graphs.{some_parts, whole}
use Rattle.superstep.proofs.Letters.{joined_map}
use Rattle.plain_run.proofs.PlainSteps.{vertices_in}
use Rattle.plain_run.proofs.machine.vertices_of.Goals as goal

joined_more : (parts : List Part) (part : Part) → joined (map vertices_in (parts ++ part ∷ [])) ≡ joined (map vertices_in parts) ++ part.vertices.items
joined_more parts part =
    ap joined (map-append vertices_in parts (part ∷ [])) ∙ flat_map-append (λ (list : List Vertex). list) (map vertices_in parts) (part.vertices.items ∷ [])
    ∙ ap (λ own. joined (map vertices_in parts) ++ own) (append-nil part.vertices.items)

pub loop-part-preserved : goal.loop-part-preserved
loop-part-preserved c =
    let now = λ (vertex : Bor Vertex). vertex.now in
    let parts = c.parts-part-items.result.now in
    let before = take c.loop-part.part-index parts in
    let more = ap (λ (some : List Part). joined (map vertices_in some))
    (take_more parts c.loop-part.part-index c.part-item.result c.loop-part-test.true ∙ ap (λ part. before ++ part ∷ []) (sym c.part-item.is))
    ∙ joined_more before c.part-item.result in
    fact_from_extend {E = AllocError} now (Ok tt) c.in_ok-extend.ensures.ran (λ it b. YieldsList-at b (YieldsList-from_slice c.part-item.result.vertices.items (c.iter.ensures.rest ∙ c.deref.ensures.value)))
    (λ xs own gives.
    ap (map now) gives.0 ∙ map-append now c.loop-part.vertices.items xs ∙ (λ i. c.loop-part.invariant i ++ own i) ∙ sym more)

pub returns : goal.returns
returns c =
    let now = λ (vertex : Bor Vertex). vertex.now in
    let items = c.sort_by_cached_key.new.self.items in
    let parts = c.parts-part-items.result.now in
    let graph = c.parts-part-items.ensures.graph in
    let held : map entry_now c.loop-part.vertices.items ≡ joined c.args.job.now.parts =
    sym (map-map entry_of now c.loop-part.vertices.items)
    ∙ ap (map entry_of) (c.loop-part.invariant ∙ ap (λ (some : List Part). joined (map vertices_in some)) (take_all _ _ c.loop-part-test.false))
    ∙ sym (joined_map entry_of (map vertices_in parts))
    ∙ ap joined (map-map (map entry_of) vertices_in parts ∙ c.parts-part-items.ensures.parts) in
    let moved : IsPermutation (joined c.args.job.now.parts) (map entry_now items) =
    subst (λ (xs : List Entry). IsPermutation xs (map entry_now items)) held (IsPermutation-map entry_now _ _ c.sort_by_cached_key.ensures.permutation) in
    let up : IsNonDecreasing (map id_now items) =
    keys_sorted id_now items (IsNonDecreasingBy-from_sort_by_key id_now items c.in_ok-sort_by_cached_key.ensures.sorted (λ a r q k. search rules)) in
    let sorted : IsNonDecreasing (map id_at (map entry_now items)) = subst IsNonDecreasing (sym (map-map id_at entry_now items)) up in
    let same : map entry_now items ≡ graph.0 =
    order_is id_at (joined c.args.job.now.parts) (map entry_now items) graph.0 moved sorted
    (whole c.args.job.now graph.0 (some_parts c.args.job.now.settings c.parts-part-items.ensures.good) graph.1) graph.1.proper.rising in
    subst (λ (entries : List Entry). IsGraphOf c.args.job.now entries) (sym same) graph.1
