use Rattle.std.proofs.Common.{◌≡◌, None, length, subst, ap, ◌∙◌}
use Rattle.superstep.specs.Job.{IsGraphOf, Work}
use Rattle.job_state.specs.Settings.{first_bad}
use Rattle.superstep.specs.declared.job.Kept.{Kept}
use Rattle.superstep.proofs.Graphs.{one_graph, some_parts}
use Rattle.superstep.proofs.job.Job.count.Goals as goal

pub returns : goal.returns
returns c = λ graph is.
    let kept = c.self.invariant in
    let good = subst (λ (work : Work). first_bad work.settings ≡ None) c.self.view_is kept.good in
    let own = subst (λ (work : Work). IsGraphOf work kept.graph) c.self.view_is kept.is_graph in
    ap (λ (k : Kept). k.count) c.deref.ensures ∙ kept.counted ∙ ap length (one_graph c.args.self.now kept.graph graph (some_parts c.args.self.now.settings good) own is)
