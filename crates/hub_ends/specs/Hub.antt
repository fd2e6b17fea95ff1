-- What belongs to one hub, and what its coordinator received and sent.
use Rattle.std.specs.Global.{Vec}
use Rattle.std.specs.Prelude.{◌≡◌, ◌<◌, ◌+◌, ℕ, true, List, [], ◌∷◌, map, vec_len, slice_get, Some}
use Rattle.control.specs.declared.event.Event.{Event}
use Rattle.hub_ends.specs.ChannelEnds.{channel_of, received_by, source_of}
use Rattle.hub_ends.specs.Messages.{closes, sender_of}
use Rattle.hub_ends.specs.TaskChannels.{channel_on, sent_on}
use Rattle.hub_ends.specs.Orders.{at, coordinator, stops}
use Rattle.hub_ends.specs.Passes as pass
use Rattle.hub_ends.specs.Protocol.{IsOnceInOrder, has_bye, of}
use Rattle.hub_ends.specs.declared.coordinator_ends.CoordinatorEnds.{CoordinatorEnds}
use Rattle.hub_ends.specs.declared.message.Message.{Message}
use Rattle.hub_ends.specs.declared.message.Message.TheVariants as message
use Rattle.hub_ends.specs.declared.order.Order.{Order}
use Rattle.hub_ends.specs.declared.pass.TickPass.{TickPass}
use Rattle.hub_ends.specs.declared.pass.TickReceipt.{TickReceipt}
use Rattle.hub_ends.specs.declared.pass.WorkerPass.{WorkerPass}
use Rattle.hub_ends.specs.declared.pass.WorkerReceipt.{WorkerReceipt}
use Rattle.hub_ends.specs.Channel.{Channel, room_of}

-- the channels of a hub: that of events, and that of each worker's tasks
pub record Channels (J : Type 0) : Type 0 where
  pub events : Channel (Message J)
  pub orders : List (Channel (Order J))

module _ {J : Type 0} where
  -- ---- lists of messages

  -- without byes
  abbrev pub events_in : List (Message J) → List (Event J)
  events_in [] = []
  events_in (message.Event event ∷ messages) = event ∷ events_in messages
  events_in (message.Bye sender ∷ messages) = events_in messages

  -- all senders to the coordinator, this many workers and the ticker, have said bye
  abbrev pub HasByes : ℕ → List (Message J) → Type 0
  HasByes workers received = (p : ℕ) → p < workers + 1 → has_bye closes (of sender_of p received) ≡ true

  -- ---- the coordinator's ends

  -- what was received, in order
  abbrev pub received : CoordinatorEnds J → List (Message J)
  received ends = received_by ends.events

  -- the orders that each worker was sent
  abbrev pub handed : CoordinatorEnds J → List (List (Order J))
  handed ends = map sent_on ends.task_channels.items

  -- the number of workers
  abbrev pub staff : CoordinatorEnds J → ℕ
  staff ends = vec_len ends.task_channels

  -- worker w was sent `Stop`
  abbrev pub IsStopped : CoordinatorEnds J → ℕ → Type 0
  IsStopped ends w = has_bye stops (at (handed ends) w) ≡ true

  -- nothing was received or sent
  pub record IsUnused (ends : CoordinatorEnds J) : Type 0 where
    pub nothing_received : received ends ≡ []
    pub nothing_handed : (w : ℕ) → at (handed ends) w ≡ []

  -- ---- the channels of a hub, and the passes that belong to them

  abbrev pub channels_of : CoordinatorEnds J → Channels J
  channels_of ends = record { events = source_of ends.events; orders = map channel_on ends.task_channels.items }

  -- the channels and the workers are the same
  pub record IsSameHub (before after : CoordinatorEnds J) : Type 0 where
    pub channels : channels_of after ≡ channels_of before
    pub workers : staff after ≡ staff before

  -- the pass of worker w, which has sent and taken nothing
  pub record IsNewPass (channels : Channels J) (w : ℕ) (mine : WorkerPass J) : Type 0 where
    pub worker : pass.worker_of mine ≡ w
    pub events : channel_of mine.events ≡ channels.events
    pub orders : slice_get channels.orders w ≡ Some (source_of mine.orders)
    pub nothing_handed_in : pass.handed_in mine ≡ []
    pub nothing_taken : pass.taken mine ≡ []

  -- those of the workers from w on
  abbrev pub AreNewPasses : Channels J → ℕ → List (WorkerPass J) → Type 0
  AreNewPasses channels w [] = Unit {0}
  AreNewPasses channels w (mine ∷ passes) = IsNewPass channels w mine × AreNewPasses channels (w + 1) passes

  -- the ticker's pass, which has sent nothing
  pub record IsNewTicker (channels : Channels J) (mine : TickPass J) : Type 0 where
    pub events : channel_of mine.events ≡ channels.events
    pub nothing_handed_in : pass.ticked mine ≡ []

  -- the ends of a new hub: those of the coordinator, of this many workers, and of the ticker
  pub record IsNewHubOf (workers : ℕ) (ends : CoordinatorEnds J) (passes : Vec (WorkerPass J)) (ticker : TickPass J) : Type 0 where
    pub unused : IsUnused ends
    pub workers_are : staff ends ≡ workers
    pub passes_are : AreNewPasses (channels_of ends) 0 passes.items
    pub passes_len : vec_len passes ≡ workers
    pub ticker_is : IsNewTicker (channels_of ends) ticker

  -- each holds at most this many orders
  abbrev pub HaveRoomFor : ℕ → List (Channel (Order J)) → Type 0
  HaveRoomFor n [] = Unit {0}
  HaveRoomFor n (channel ∷ channels) = (room_of channel ≡ n) × HaveRoomFor n channels

  -- A task channel holds at most two orders, and the channel of events two messages more than there are workers.
  pub record HasRooms (workers : ℕ) (channels : Channels J) : Type 0 where
    pub events : room_of channels.events ≡ workers + 2
    pub orders : HaveRoomFor 2 channels.orders

  -- ---- receipts

  -- it is of worker w
  pub record IsReceiptOn (channels : Channels J) (w : ℕ) (receipt : WorkerReceipt J) : Type 0 where
    pub worker : receipt.worker ≡ w
    pub events : channel_of receipt.events ≡ channels.events
    pub orders : slice_get channels.orders w ≡ Some (source_of receipt.orders)

  abbrev pub IsTickReceiptOn : Channels J → TickReceipt J → Type 0
  IsTickReceiptOn channels receipt = channel_of receipt.events ≡ channels.events

  -- What was received from worker w came once and in order, and so did the tasks that it took.
  pub record IsSettled (ends : CoordinatorEnds J) (w : ℕ) (receipt : WorkerReceipt J) : Type 0 where
    pub on : IsReceiptOn (channels_of ends) w receipt
    pub events : IsOnceInOrder sender_of closes (w + 1) (pass.handed_in_by receipt) (received ends)
    pub tasks : IsOnceInOrder coordinator stops 0 (at (handed ends) w) (pass.taken_by receipt)

  pub record IsTickerSettled (ends : CoordinatorEnds J) (receipt : TickReceipt J) : Type 0 where
    pub on : IsTickReceiptOn (channels_of ends) receipt
    pub events : IsOnceInOrder sender_of closes 0 (pass.ticked_by receipt) (received ends)
