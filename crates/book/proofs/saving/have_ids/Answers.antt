use Rattle.std.proofs.Common.{◌≡◌, ◌<◌, ℕ, Bor, List, ap, below_more, get_or, length, map, sym, ◌∙◌}
use Rattle.std.proofs.lemmas.List.{get_or-map, length-map}
use Rattle.std.proofs.lemmas.Simd.{map-map}
use Rattle.job_state.specs.State.{state_id}
use Rattle.job_state.specs.declared.state.VertexState.{VertexState}
use Rattle.book.proofs.saving.have_ids.Goals as goal

-- the id of the vertex at this place
id_at : (vertices : List (Bor VertexState)) (k : ℕ) (d : Bor VertexState) → k < length vertices
    → get_or (map state_id (map (λ vertex. vertex.now) vertices)) k 0 ≡ (get_or vertices k d).now.id
id_at vertices k d below =
    ap (λ ids. get_or ids k 0) (map-map state_id (λ (vertex : Bor VertexState). vertex.now) vertices)
    ∙ get_or-map (λ (vertex : Bor VertexState). state_id vertex.now) vertices k d 0 below

pub returns-then-vertices-i-clause-others : goal.returns-then-vertices-i-clause-others
returns-then-vertices-i-clause-others c = λ no has.
    let vertices = c.args.vertices.now in
    let here = id_at vertices c.loop-i.i c.index-vertices-i.result c.loop-i-test.true in
    let below : c.loop-i.i < length (map (λ (vertex : Bor VertexState). vertex.now) vertices) =
    rw (length-map vertices (λ (vertex : Bor VertexState). vertex.now)) c.loop-i-test.true in
    c.if-vertices-i.true (sym here ∙ has.1 c.loop-i.i below)

pub loop-i-preserved : goal.loop-i-preserved
loop-i-preserved c =
    let here = id_at c.args.vertices.now c.loop-i.i c.index-vertices-i.result c.loop-i-test.true in
    below_more _ _ c.loop-i.invariant (here ∙ c.if-vertices-i.false)
