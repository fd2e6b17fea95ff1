-- Messages and orders in numbers, one more of them.
use Rattle.std.proofs.Common.{◌≡◌, List, [], ◌∷◌, ◌++◌, map, refl, ap, ◌∙◌}
use mathlib.Core.List.{append-nil, map-append}
use Rattle.superstep.specs.declared.task.Task.{Task}
use Rattle.control.specs.declared.event.Event.{Event}
use Rattle.control.specs.Stamps.{stamp_of, task_out}
use Rattle.hub_ends.specs.Orders.{tasks_in}
use Rattle.hub_ends.specs.Hub.{events_in}
use Rattle.worker_loops.specs.Numbers.{outs_in, stamps_in}
use Rattle.hub_ends.specs.declared.message.Message.{Message}
use Rattle.hub_ends.specs.declared.message.Message.TheVariants as message
use Rattle.hub_ends.specs.declared.order.Order.{Order}
use Rattle.hub_ends.specs.declared.order.Order.TheVariants.{Do}
use Rattle.hub_ends.specs.declared.message.Sender.{Sender}
use Rattle.hub_ends.proofs.Handed.{tasks-append}

module _ {J : Type 0} where
  events_in-append : (a b : List (Message J)) → events_in (a ++ b) ≡ events_in a ++ events_in b
  events_in-append [] b = refl
  events_in-append (message.Event event ∷ a) b = ap (λ l. event ∷ l) (events_in-append a b)
  events_in-append (message.Bye sender ∷ a) b = events_in-append a b

  pub stamps_event : (a : List (Message J)) (event : Event J) → stamps_in (a ++ message.Event event ∷ []) ≡ stamps_in a ++ stamp_of event ∷ []
  stamps_event a event = ap (map stamp_of) (events_in-append a (message.Event event ∷ [])) ∙ map-append stamp_of (events_in a) (event ∷ [])

  pub stamps_bye : (a : List (Message J)) (sender : Sender) → stamps_in (a ++ message.Bye sender ∷ []) ≡ stamps_in a
  stamps_bye a sender = ap (map stamp_of) (events_in-append a (message.Bye sender ∷ []) ∙ append-nil (events_in a))

  pub outs_task : (a : List (Order J)) (task : Task J) → outs_in (a ++ Do task ∷ []) ≡ outs_in a ++ task_out task ∷ []
  outs_task a task = ap (map task_out) (tasks-append a (Do task ∷ [])) ∙ map-append task_out (tasks_in a) (task ∷ [])
