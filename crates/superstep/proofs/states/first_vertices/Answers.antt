use Rattle.std.proofs.Common.{◌≡◌, [], ◌∷◌, ◌++◌, List, ap, get_or, map, take, sym, ◌∙◌}
use Rattle.std.proofs.lemmas.List.{map-append, map_more, take_all}
use Rattle.graph.specs.Entry.{entry_of}
use Rattle.graph.specs.declared.vertex.Vertex.{Vertex}
use Rattle.superstep.specs.inside.Rows.{first_vertex, first_vertices}
use Rattle.superstep.proofs.states.first_vertices.Goals as goal

pub loop-vertex-preserved : goal.loop-vertex-preserved
loop-vertex-preserved c =
    let items = c.deref-vertex-items.result.now in
    let index = c.loop-vertex.vertex-index in
    let item = c.vertex-item.result in
    let before = map entry_of (take index items) in
    let own : c.first_vertex.result ≡ first_vertex (entry_of (get_or items index item)) =
    c.first_vertex.ensures ∙ ap (λ (vertex : Vertex). first_vertex (entry_of vertex)) c.vertex-item.is in
    let pushed : c.push.new.self.items ≡ c.loop-vertex.vertices.items ++ c.first_vertex.result ∷ [] = c.in_ok-push.ensures.items in
    pushed
    ∙ (λ i. c.loop-vertex.invariant i ++ own i ∷ [])
    ∙ sym (map-append first_vertex before (entry_of (get_or items index item) ∷ []))
    ∙ ap first_vertices (sym (map_more entry_of items index item c.loop-vertex-test.true))

pub returns : goal.returns
returns c =
    let all = take_all c.loop-vertex.vertex-index c.deref-vertex-items.result.now c.loop-vertex-test.false in
    c.loop-vertex.invariant
    ∙ ap (λ (vertices : List Vertex). first_vertices (map entry_of vertices)) (all ∙ c.deref-vertex-items.ensures.value)
