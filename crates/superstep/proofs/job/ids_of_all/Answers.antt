use Rattle.std.proofs.Common.{ap, map, ◌∙◌}
use Rattle.graph.specs.Entry.{vertex_id}
use Rattle.superstep.proofs.Graphs.{numbered_more}
use Rattle.superstep.proofs.job.ids_of_all.Goals as goal

pub loop-part-preserved : goal.loop-part-preserved
loop-part-preserved c =
    rw c.in_ok-push.ensures.items (numbered_more c.args.parts.now c.loop-part.part-index c.part-item.result c.loop-part.all.items c.in_ok-ids_of.field-0
    c.loop-part-test.true c.part-item.is (c.in_ok-ids_of.ensures ∙ ap (map vertex_id) c.deref.ensures.value) c.loop-part.invariant)
