use Rattle.std.proofs.Common.{ap, sym, ◌∙◌}
use Rattle.hub_ends.specs.Orders.{at, tasks_in}
use Rattle.coordinator.specs.Coordinator.{handed_on}
use Rattle.coordinator.proofs.coordinator.Coordinator.stop.Goals as goal

pub returns-in-Ok-clause-tasks : goal.returns-in-Ok-clause-tasks
returns-in-Ok-clause-tasks g c = λ w. c.stop.ensures.tasks w ∙ sym (ap (λ ends. tasks_in (at (handed_on ends) w)) c.in-Some.is)

pub returns-in-Err-clause-tasks : goal.returns-in-Err-clause-tasks
returns-in-Err-clause-tasks g c = λ w. c.stop.ensures.tasks w ∙ sym (ap (λ ends. tasks_in (at (handed_on ends) w)) c.in-Some.is)
