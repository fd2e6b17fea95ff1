use Rattle.std.proofs.Common.{arith}
use Rattle.superstep.specs.inside.Opening.{edges_at}
use Rattle.superstep.proofs.Edges.{sum_more}
use Rattle.superstep.proofs.job.edges_in.Goals as goal

pub loop-vertex-preserved : goal.loop-vertex-preserved
loop-vertex-preserved c =
    sum_more edges_at c.args.vertices.now c.loop-vertex.vertex-index c.vertex-item.result c.loop-vertex.count c.len.result c.saturating_add-count.result
    c.loop-vertex-test.true c.vertex-item.is c.loop-vertex.invariant (omega (arith, c.len.ensures, c.vertex-item.result.edges.ok.0)) c.saturating_add-count.ensures
