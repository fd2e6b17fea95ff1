-- What a coordinator received and sent, in numbers.
use Rattle.std.specs.Prelude.{List, map}
use Rattle.control.specs.declared.control.Out.{Out}
use Rattle.control.specs.Events.{Stamp}
use Rattle.control.specs.Stamps.{stamp_of, task_out}
use Rattle.hub_ends.specs.Orders.{tasks_in}
use Rattle.hub_ends.specs.Hub.{events_in}
use Rattle.hub_ends.specs.declared.message.Message.{Message}
use Rattle.hub_ends.specs.declared.order.Order.{Order}

-- what it received, without byes and in numbers
abbrev pub stamps_in : {J : Type 0} → List (Message J) → List Stamp
stamps_in messages = map stamp_of (events_in messages)

-- what a worker was sent, without stops and in numbers
abbrev pub outs_in : {J : Type 0} → List (Order J) → List Out
outs_in orders = map task_out (tasks_in orders)
