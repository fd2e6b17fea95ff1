use Rattle.std.proofs.Common.{◌≡◌, subst, sym, true}
use Rattle.superstep.specs.Found.{IsFoundAt}
use Rattle.job_state.specs.Stamps.{TaskStamp}
use Rattle.superstep.proofs.task.Task.found.Goals as goal

pub returns : goal.returns
returns g c = λ sure.
    let own = c.self.invariant (subst (λ (stamp : TaskStamp). g.J.Origin.honest stamp.epoch ≡ true) (sym c.self.view_is) sure) in
    subst (λ (stamp : TaskStamp). IsFoundAt g.J.Origin.work stamp.superstep stamp.part c.found.result) c.self.view_is (c.found.ensures own.0)
