use Rattle.std.proofs.Common.{arith}
use Rattle.std.proofs.lemmas.Grind.{common_steps}
use Rattle.conversions.proofs.graph_import.vertices.counts_of.Goals as goal

pub loop-edge-preserved : goal.loop-edge-preserved
loop-edge-preserved c = λ id. grind (arith, common_steps, c.loop-edge.invariant id)
