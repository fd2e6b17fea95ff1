use Rattle.std.proofs.Common.{◌+◌, ℕ, ap, ◌∙◌}
use Rattle.job_state.specs.State.{capped}
use Rattle.superstep.proofs.Gathering.{gathered_more}
use Rattle.superstep.proofs.barrier_step.Gathered.add.Goals as goal

pub returns : goal.returns
returns g c = λ dones before.
    let left = c.into_parts-vertices.result in
    gathered_more g.J.Origin.work g.J.Origin.honest dones c.args.done c.args.self.now _ left.0 left.1 left.2 before c.into_parts-vertices.ensures.is
    (record {
      more_vertices = c.in_ok-push.ensures.items;
      more_letters = c.in_ok-push-2.ensures.items;
      more_aggregators = c.unite.ensures;
      more_units = c.saturating_add-self.ensures ∙ ap (λ (units : ℕ). capped (c.args.self.now.units + units)) c.into_parts-vertices.ensures.units;
    })
