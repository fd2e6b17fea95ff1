use Rattle.std.proofs.Common.{◌≡◌, [], ◌∷◌, ◌++◌, get_or, map, ap, sym, ◌∙◌, arith}
use Rattle.std.proofs.lemmas.List.{map_more, take_all}
use Rattle.graph.proofs.partition.ids_of.Goals as goal

pub loop-element-preserved : goal.loop-element-preserved
loop-element-preserved g c =
    let id = g.T.Identified.id in
    let elements = c.args.elements.now in
    let index = c.loop-element.element-index in
    let element = c.element-item.result in
    let own : c.id.result ≡ id (get_or elements index element) = c.id.ensures ∙ ap id c.element-item.is in
    record {
      ids = c.push_reserved.ensures.items ∙ (λ k. c.loop-element.invariant.ids k ++ own k ∷ []) ∙ sym (map_more id elements index element c.loop-element-test.true);
      len = omega (arith, c.push_reserved.ensures.len, c.loop-element.invariant.len);
      room = c.push_reserved.ensures.capacity ∙ c.loop-element.invariant.room;
    }

pub push_reserved-requires : goal.push_reserved-requires
push_reserved-requires g c = omega (arith, c.loop-element.invariant.len, c.loop-element.invariant.room, c.loop-element-test.true)

pub returns : goal.returns
returns g c =
    let all = take_all c.loop-element.element-index c.args.elements.now c.loop-element-test.false in
    c.loop-element.invariant.ids ∙ ap (map g.T.Identified.id) all
