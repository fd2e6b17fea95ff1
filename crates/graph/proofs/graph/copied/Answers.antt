use Rattle.std.proofs.Common.{◌≡◌, [], ◌∷◌, ◌++◌, get_or, ap, sym, ◌∙◌, arith}
use Rattle.std.proofs.lemmas.List.{map-append, map_more, take_all}
use Rattle.graph.specs.Entry.{entries_of, entry_of}
use Rattle.graph.proofs.graph.copied.Goals as goal

pub loop-vertex-preserved : goal.loop-vertex-preserved
loop-vertex-preserved c =
    let vertices = c.args.vertices.now in
    let index = c.loop-vertex.vertex-index in
    let vertex = c.vertex-item.result in
    let own : entry_of c.in_ok-copy.copy ≡ entry_of (get_or vertices index vertex) = c.in_ok-copy.ensures ∙ ap entry_of c.vertex-item.is in
    record {
      same =
          ap entries_of c.push_reserved.ensures.items
          ∙ map-append entry_of c.loop-vertex.copies.items (c.in_ok-copy.copy ∷ [])
          ∙ (λ k. c.loop-vertex.invariant.same k ++ own k ∷ [])
          ∙ sym (map_more entry_of vertices index vertex c.loop-vertex-test.true);
      len = omega (arith, c.push_reserved.ensures.len, c.loop-vertex.invariant.len);
      room = c.push_reserved.ensures.capacity ∙ c.loop-vertex.invariant.room;
    }

pub push_reserved-requires : goal.push_reserved-requires
push_reserved-requires c = omega (arith, c.loop-vertex.invariant.len, c.loop-vertex.invariant.room, c.loop-vertex-test.true)

pub returns : goal.returns
returns c = c.loop-vertex.invariant.same ∙ ap entries_of (take_all c.loop-vertex.vertex-index c.args.vertices.now c.loop-vertex-test.false)
