-- How a hub is opened.
use Rattle.std.specs.Prelude.{◌≡◌, ◌≤◌, ◌+◌, ℕ, false, [], map, replicate, vec_len, vec_capacity}
use Rattle.hub_ends.specs.Hub.{AreNewPasses, HaveRoomFor}
use Rattle.hub_ends.specs.Orders.{at}
use Rattle.hub_ends.specs.TaskChannels.{channel_on, sent_on}
use Rattle.hub_ends.specs.ChannelEnds.{channel_of, source_of}
use Rattle.hub_ends.specs.Passes as pass
use Rattle.hub_ends.specs.declared.hub.Rows.{Rows}
use Rattle.hub_ends.specs.declared.message.Message.{Message}
use Rattle.hub_ends.specs.declared.order.Order.{Order}
use Rattle.hub_ends.specs.declared.pass.WorkerPass.{WorkerPass}
use Rattle.hub_ends.specs.Channel.{Channel}

module _ {J : Type 0} where
  -- there is room for this many workers
  pub record AreEmptyRows (workers : ℕ) (rows : Rows J) : Type 0 where
    pub task_channels : rows.task_channels.items ≡ []
    pub passes : rows.passes.items ≡ []
    pub task_channels_room : workers ≤ vec_capacity rows.task_channels
    pub passes_room : workers ≤ vec_capacity rows.passes
    pub gone : rows.gone.items ≡ replicate (workers + 1) false

  -- the new ends of worker w, on these channels
  pub record IsNewPassOf (events : Channel (Message J)) (orders : Channel (Order J)) (w : ℕ) (mine : WorkerPass J) : Type 0 where
    pub worker : pass.worker_of mine ≡ w
    pub events_are : channel_of mine.events ≡ events
    pub orders_are : source_of mine.orders ≡ orders
    pub nothing_handed_in : pass.handed_in mine ≡ []
    pub nothing_taken : pass.taken mine ≡ []

  -- this many workers have new task channels and passes
  pub record AreFilledRows (events : Channel (Message J)) (workers : ℕ) (rows : Rows J) : Type 0 where
    pub task_channels : vec_len rows.task_channels ≡ workers
    pub passes : vec_len rows.passes ≡ workers
    pub nothing : (w : ℕ) → at (map sent_on rows.task_channels.items) w ≡ []
    pub new : AreNewPasses (record { events = events; orders = map channel_on rows.task_channels.items }) 0 rows.passes.items
    pub rooms : HaveRoomFor 2 (map channel_on rows.task_channels.items)
