use Rattle.std.proofs.Common.{arith}
use Rattle.graph.proofs.InPieces.{edges_counted, vertices_counted, whole_if_ok}
use Rattle.graph.proofs.pieces.together.Goals as goal

pub returns : goal.returns
returns c =
    let pieces = c.args.pieces.items in
    let vertices = rw c.deref.ensures.value at c.vertex_count-vertices.ensures in
    let edges = rw c.deref-2.ensures.value at c.edge_count-edges.ensures in
    rw c.ok.ensures.value (whole_if_ok pieces c.append_all.result (omega (arith, vertices, vertices_counted pieces)) (omega (arith, edges, edges_counted pieces))
    c.append_all.ensures.vertices c.append_all.ensures.edges)
