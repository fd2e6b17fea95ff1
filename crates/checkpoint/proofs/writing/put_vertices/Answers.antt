use Rattle.std.proofs.Common.{◌≡◌, ◌+◌, ◌∙◌, ◌++◌, ◌∷◌, [], Bor, List, ap, length, map, subst, sym, take}
use Rattle.std.proofs.lemmas.List.{length-map, map_more, take_all}
use Rattle.std.specs.List.{AllByRecursion, flat_map}
use Rattle.job_state.specs.declared.state.VertexState.{VertexState}
use Rattle.checkpoint.specs.Checkpoint.{VertexFits, vertex_bytes, vertices_bytes}
use Rattle.checkpoint.specs.Numbers.{number}
use Rattle.checkpoint.proofs.Appending.{appended_more, each_more}
use Rattle.checkpoint.proofs.writing.put_vertices.Goals as goal

abbrev seen : List (Bor VertexState) → List VertexState
seen vertices = map (λ (vertex : Bor VertexState). vertex.now) vertices

pub loop-vertex-preserved : goal.loop-vertex-preserved
loop-vertex-preserved c =
    let vertices = c.args.vertices.now in
    let vertex = c.vertex-item.result in
    let before = seen (take c.loop-vertex.vertex-index vertices) in
    let more : before ++ vertex.now ∷ [] ≡ seen (take (c.loop-vertex.vertex-index + 1) vertices) =
    (λ i. before ++ (c.vertex-item.is i).now ∷ []) ∙ sym (map_more (λ (vertex : Bor VertexState). vertex.now) vertices c.loop-vertex.vertex-index vertex c.loop-vertex-test.true) in
    let head = number 4 (length vertices) in
    record {
      appended = subst (λ vertices. c.put.new.out.items ≡ c.args.out.now.items ++ (head ++ flat_map vertex_bytes vertices)) more
          (appended_more vertex_bytes c.args.out.now.items head c.loop-vertex.out.items c.put.new.out.items before vertex.now c.loop-vertex.invariant.appended c.in_ok-put.ensures.appended);
      fits = subst (AllByRecursion VertexFits) more (each_more VertexFits before vertex.now c.loop-vertex.invariant.fits c.in_ok-put.ensures.fits);
    }

pub returns-clause-appended : goal.returns-clause-appended
unfolding vertices_bytes
returns-clause-appended c =
    let vertices = c.args.vertices.now in
    let all = take_all c.loop-vertex.vertex-index vertices c.loop-vertex-test.false in
    let many = length-map vertices (λ (vertex : Bor VertexState). vertex.now) in
    c.loop-vertex.invariant.appended
    ∙ ap (λ before. c.args.out.now.items ++ (number 4 (length vertices) ++ flat_map vertex_bytes (seen before))) all
    ∙ ap (λ count. c.args.out.now.items ++ (number 4 count ++ flat_map vertex_bytes (seen vertices))) (sym many)

pub returns-clause-fits : goal.returns-clause-fits
returns-clause-fits c =
    let all = take_all c.loop-vertex.vertex-index c.args.vertices.now c.loop-vertex-test.false in
    subst (λ vertices. AllByRecursion VertexFits (seen vertices)) all c.loop-vertex.invariant.fits
