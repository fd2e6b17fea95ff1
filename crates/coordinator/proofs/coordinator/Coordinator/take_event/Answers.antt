use Rattle.std.proofs.Common.{[], ◌∷◌, ◌++◌, Some, ap, subst, sym, ◌∙◌}
use Rattle.coordinator.specs.Coordinator.{IsSameOn, handed_on, received_on}
use Rattle.coordinator.proofs.coordinator.Coordinator.take_event.Goals as goal

pub returns-in-Ok-clause-received : goal.returns-in-Ok-clause-received
returns-in-Ok-clause-received g c = c.in-Ok.ensures.received ∙ sym (ap (λ ends. received_on ends ++ c.in-Ok.message ∷ []) c.in-Some.is)

pub returns-in-Ok-clause-handed : goal.returns-in-Ok-clause-handed
returns-in-Ok-clause-handed g c = c.take_event.ensures.handed ∙ sym (ap handed_on c.in-Some.is)

pub returns-in-Ok-clause-hub : goal.returns-in-Ok-clause-hub
returns-in-Ok-clause-hub g c = subst (λ ends. IsSameOn ends (Some c.take_event.new.self)) (sym c.in-Some.is) c.take_event.ensures.hub
