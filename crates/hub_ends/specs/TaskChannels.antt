-- What the coordinator's end of a worker's channel shows.
use Rattle.std.specs.Prelude.{List}
use Rattle.hub_ends.specs.Channel.{Channel}
use Rattle.hub_ends.specs.ChannelEnds.{channel_of, sent_by}
use Rattle.hub_ends.specs.declared.task_channel.TaskChannel.{TaskChannel}
use Rattle.hub_ends.specs.declared.order.Order.{Order}

module _ {J : Type 0} where
  -- what was sent to the worker, in order
  abbrev pub sent_on : TaskChannel J → List (Order J)
  sent_on task_channel = sent_by task_channel.orders

  abbrev pub channel_on : TaskChannel J → Channel (Order J)
  channel_on task_channel = channel_of task_channel.orders
