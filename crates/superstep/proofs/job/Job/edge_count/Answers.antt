use Rattle.std.proofs.Common.{◌≡◌, ◌-◌, ◌^◌, ◌∙◌, List, ap, arith, min, take}
use Rattle.std.specs.Prelude.{sum_by}
use Rattle.std.proofs.lemmas.List.{take_all}
use Rattle.graph.specs.Entry.{edge_count}
use Rattle.graph.specs.declared.vertex.Vertex.{Vertex}
use Rattle.superstep.specs.inside.Opening.{edges_at}
use Rattle.superstep.proofs.Edges.{edges_of, edges_whole, sum_more}
use Rattle.superstep.proofs.job.Job.edge_count.Goals as goal

pub loop-part-preserved : goal.loop-part-preserved
loop-part-preserved c =
    sum_more edges_of c.parts-part-items.result.now c.loop-part.part-index c.part-item.result c.loop-part.count c.edges_in.result c.saturating_add-count.result
    c.loop-part-test.true c.part-item.is c.loop-part.invariant
    (c.edges_in.ensures ∙ ap (λ (vertices : List Vertex). min (sum_by edges_at vertices) (2 ^ 64 - 1)) c.deref.ensures.value) c.saturating_add-count.ensures

pub returns : goal.returns
returns c = λ graph is.
    let parts = c.parts-part-items.result.now in
    let all : sum_by edges_of (take c.loop-part.part-index parts) ≡ edge_count graph =
    ap (sum_by edges_of) (take_all c.loop-part.part-index parts c.loop-part-test.false)
    ∙ edges_whole c.args.self.now graph parts c.parts-part-items.ensures.good is c.parts-part-items.ensures.parts in
    omega (arith, all, c.loop-part.invariant, is.limits.edges)
