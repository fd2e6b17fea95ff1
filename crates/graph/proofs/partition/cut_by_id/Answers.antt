use Rattle.std.proofs.Common.{arith}
use Rattle.graph.proofs.Splitting.{cut_next, cut_room}
use Rattle.graph.proofs.partition.cut_by_id.Goals as goal

pub index_mut-requires : goal.index_mut-requires
index_mut-requires g c =
    let cut = c.loop-element.cut in
    let room = cut_room g.T.Identified.id c.args.parts cut.items c.loop-element.yielded c.part_of-part.result c.loop-element.invariant (omega (arith, c.part_of-part.ensures)) in
    omega (arith, cut.ok.0, room)

pub loop-element-preserved : goal.loop-element-preserved
loop-element-preserved g c =
    let is = rw c.id.ensures at c.part_of-part.ensures in
    cut_next g.T.Identified.id c.args.parts c.part_of-part.result c.loop-element.cut.items c.index_mut.result.now c.push.new.self c.loop-element.yielded c.in-Some.element
    c.loop-element.invariant is (omega (arith, c.part_of-part.ensures)) c.index_mut.ensures.value c.in_ok-push.ensures.items
