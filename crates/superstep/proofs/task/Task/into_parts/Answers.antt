use Rattle.std.proofs.Common.{◌≡◌, subst, sym, true}
use Rattle.job_state.specs.Stamps.{TaskStamp}
use Rattle.superstep.specs.Tasks.{AreAggregatesAt, FitsPart, IsPartAt}
use Rattle.superstep.proofs.task.Task.into_parts.Goals as goal

pub returns-clause-fits : goal.returns-clause-fits
returns-clause-fits g c = subst (λ (stamp : TaskStamp). FitsPart g.J.Origin.work stamp.part c.into_states.result) c.self.view_is c.into_states.ensures.fits

pub returns-clause-at : goal.returns-clause-at
returns-clause-at g c = λ sure.
    let own = c.self.invariant (subst (λ (stamp : TaskStamp). g.J.Origin.honest stamp.epoch ≡ true) (sym c.self.view_is) sure) in
    subst (λ (stamp : TaskStamp). IsPartAt g.J.Origin.work stamp.superstep stamp.part c.into_states.result) c.self.view_is (c.into_states.ensures.at own.0)

pub returns-clause-aggregates : goal.returns-clause-aggregates
returns-clause-aggregates g c = λ sure.
    let own = c.self.invariant (subst (λ (stamp : TaskStamp). g.J.Origin.honest stamp.epoch ≡ true) (sym c.self.view_is) sure) in
    subst (λ (stamp : TaskStamp). AreAggregatesAt g.J.Origin.work stamp.superstep c.self.inside.aggregated) c.self.view_is own.1
