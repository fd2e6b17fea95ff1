use Rattle.std.proofs.lemmas.Result.{err_from_is_err_and}
use Rattle.checkpoint.specs.Reading.{vertices_at}
use Rattle.checkpoint.proofs.Rows.{vertices_go_on, vertices_fail, vertices_done}
use Rattle.checkpoint.proofs.vertices.read_vertices.Goals as goal

pub returns-in_err-vertex : goal.returns-in_err-vertex
returns-in_err-vertex c =
    let p = err_from_is_err_and c.from_residual-in_err-vertex.result c.from_residual-in_err-vertex.ensures.1 in
    rw (p.1, p.2) (vertices_fail c.in_err-vertex.field-0.0 c.loop.all.items c.loop.told c.args.count c.loop.counter c.loop.rest.now (vertices_at c.args.count c.args.bytes.now) c.loop-test.true c.in_err-vertex.ensures c.loop.invariant)

pub loop-preserved : goal.loop-preserved
loop-preserved c =
    rw c.in_ok-push.ensures.items (vertices_go_on c.loop.all.items c.loop.told c.args.count c.loop.counter c.loop.rest.now c.in_ok-vertex.after.now c.in_ok-vertex.vertex c.in_ok-vertex.is_told (vertices_at c.args.count c.args.bytes.now) c.loop-test.true c.in_ok-vertex.ensures c.loop.invariant)

pub returns : goal.returns
returns c = vertices_done c.loop.all.items c.loop.told c.args.count c.loop.counter c.loop.rest.now (vertices_at c.args.count c.args.bytes.now) c.loop-test.false c.loop.invariant
