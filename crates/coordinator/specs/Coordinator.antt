-- What a coordinator received and sent. It has its ends, except while `run_job` lends them to its threads.
use Rattle.std.specs.Prelude.{◌≡◌, ℕ, Option, Some, None, List, [], true}
use Rattle.std.specs.Global.{Vec}
use Rattle.hub_ends.specs.Hub as hub
use Rattle.hub_ends.specs.Orders.{at, stops}
use Rattle.hub_ends.specs.Protocol.{has_bye}
use Rattle.coordinator.specs.declared.coordinator.Coordinator.{Coordinator}
use Rattle.hub_ends.specs.declared.coordinator_ends.CoordinatorEnds.{CoordinatorEnds}
use Rattle.hub_ends.specs.declared.message.Message.{Message}
use Rattle.hub_ends.specs.declared.order.Order.{Order}
use Rattle.hub_ends.specs.declared.pass.TickPass.{TickPass}
use Rattle.hub_ends.specs.declared.pass.TickReceipt.{TickReceipt}
use Rattle.hub_ends.specs.declared.pass.WorkerPass.{WorkerPass}
use Rattle.hub_ends.specs.declared.pass.WorkerReceipt.{WorkerReceipt}

module _ {J : Type 0} where
  abbrev pub received_on : Option (CoordinatorEnds J) → List (Message J)
  received_on (Some ends) = hub.received ends
  received_on None = []

  abbrev pub handed_on : Option (CoordinatorEnds J) → List (List (Order J))
  handed_on (Some ends) = hub.handed ends
  handed_on None = []

  abbrev pub staff_on : Option (CoordinatorEnds J) → ℕ
  staff_on (Some ends) = hub.staff ends
  staff_on None = 0

  abbrev pub IsSameOn : Option (CoordinatorEnds J) → Option (CoordinatorEnds J) → Type 0
  IsSameOn (Some before) (Some after) = hub.IsSameHub before after
  IsSameOn (Some before) None = ⊥
  IsSameOn None (Some after) = ⊥
  IsSameOn None None = Unit {0}

  abbrev pub IsUnusedOn : Option (CoordinatorEnds J) → Type 0
  IsUnusedOn (Some ends) = hub.IsUnused ends
  IsUnusedOn None = ⊥

  abbrev pub IsNewOn : ℕ → Option (CoordinatorEnds J) → Vec (WorkerPass J) → TickPass J → Type 0
  IsNewOn workers (Some ends) passes ticker = hub.IsNewHubOf workers ends passes ticker
  IsNewOn workers None passes ticker = ⊥

  abbrev pub HasRoomsOn : ℕ → Option (CoordinatorEnds J) → Type 0
  HasRoomsOn workers (Some ends) = hub.HasRooms workers (hub.channels_of ends)
  HasRoomsOn workers None = ⊥

  abbrev pub IsReceiptOfOn : Option (CoordinatorEnds J) → WorkerReceipt J → Type 0
  IsReceiptOfOn (Some ends) receipt = hub.IsReceiptOn (hub.channels_of ends) receipt.worker receipt
  IsReceiptOfOn None receipt = ⊥

  abbrev pub IsTickReceiptOfOn : Option (CoordinatorEnds J) → TickReceipt J → Type 0
  IsTickReceiptOfOn (Some ends) receipt = hub.IsTickReceiptOn (hub.channels_of ends) receipt
  IsTickReceiptOfOn None receipt = ⊥

  abbrev pub IsSettledByOn : Option (CoordinatorEnds J) → ℕ → WorkerReceipt J → Type 0
  IsSettledByOn (Some ends) w receipt = hub.IsSettled ends w receipt
  IsSettledByOn None w receipt = ⊥

  abbrev pub IsTickerSettledByOn : Option (CoordinatorEnds J) → TickReceipt J → Type 0
  IsTickerSettledByOn (Some ends) receipt = hub.IsTickerSettled ends receipt
  IsTickerSettledByOn None receipt = ⊥

  -- what was received, in order
  abbrev pub received : Coordinator J → List (Message J)
  received coordinator = received_on coordinator.ends

  -- the orders that each worker was sent
  abbrev pub handed : Coordinator J → List (List (Order J))
  handed coordinator = handed_on coordinator.ends

  -- the number of workers
  abbrev pub staff : Coordinator J → ℕ
  staff coordinator = staff_on coordinator.ends

  -- worker w was sent `Stop`
  abbrev pub IsStopped : Coordinator J → ℕ → Type 0
  IsStopped coordinator w = has_bye stops (at (handed coordinator) w) ≡ true

  -- it has its ends, and has received and sent nothing
  abbrev pub IsUnused : Coordinator J → Type 0
  IsUnused coordinator = IsUnusedOn coordinator.ends

  -- the channels and the workers are the same
  abbrev pub IsSameHub : Coordinator J → Coordinator J → Type 0
  IsSameHub before after = IsSameOn before.ends after.ends

  -- the coordinator, the passes of this many workers and the ticker's: of one hub, and unused
  abbrev pub IsNewHub : ℕ → Coordinator J → Vec (WorkerPass J) → TickPass J → Type 0
  IsNewHub workers coordinator passes ticker = IsNewOn workers coordinator.ends passes ticker

  -- A task channel holds at most two orders, and the channel of events two messages more than there are workers.
  abbrev pub HasRooms : ℕ → Coordinator J → Type 0
  HasRooms workers coordinator = HasRoomsOn workers coordinator.ends

  -- the receipt is of a pass of its hub
  abbrev pub IsReceiptOf : Coordinator J → WorkerReceipt J → Type 0
  IsReceiptOf coordinator receipt = IsReceiptOfOn coordinator.ends receipt

  abbrev pub IsTickReceiptOf : Coordinator J → TickReceipt J → Type 0
  IsTickReceiptOf coordinator receipt = IsTickReceiptOfOn coordinator.ends receipt

  -- What was received from worker w came once and in order, and so did the tasks that it took.
  abbrev pub IsSettledBy : Coordinator J → ℕ → WorkerReceipt J → Type 0
  IsSettledBy coordinator w receipt = IsSettledByOn coordinator.ends w receipt

  abbrev pub IsTickerSettledBy : Coordinator J → TickReceipt J → Type 0
  IsTickerSettledBy coordinator receipt = IsTickerSettledByOn coordinator.ends receipt
