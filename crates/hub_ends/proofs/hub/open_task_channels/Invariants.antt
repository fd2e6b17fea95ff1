use Rattle.std.proofs.Common.{◌≡◌, ◌≤◌, ◌+◌, [], map, ℕ, vec_len, vec_capacity}
use Rattle.hub_ends.specs.Hub.{AreNewPasses, HaveRoomFor}
use Rattle.hub_ends.specs.Orders.{at}
use Rattle.hub_ends.specs.TaskChannels.{channel_on, sent_on}
use Rattle.hub_ends.specs.ChannelEnds.{channel_of, received_by, senders_of, source_of}
use Rattle.hub_ends.proofs.hub.open_task_channels.Given as goal

abbrev pub invariant-loop-worker : goal.invariant-loop-worker
invariant-loop-worker g l = record {
  ticks : channel_of l.ticks ≡ source_of l.events;
  senders : senders_of l.events ≡ l.worker + 1;
  received : received_by l.events ≡ received_by l.initial.events;
  channel : source_of l.events ≡ source_of l.initial.events;
  task_channels : vec_len l.rows.task_channels ≡ l.worker;
  passes : vec_len l.rows.passes ≡ l.worker;
  task_channels_room : l.workers ≤ vec_capacity l.rows.task_channels;
  passes_room : l.workers ≤ vec_capacity l.rows.passes;
  nothing : (w : ℕ) → at (map sent_on l.rows.task_channels.items) w ≡ [];
  new : AreNewPasses (record { events = source_of l.initial.events; orders = map channel_on l.rows.task_channels.items }) 0 l.rows.passes.items;
  rooms : HaveRoomFor 2 (map channel_on l.rows.task_channels.items);
  gone : l.rows.gone.items ≡ l.initial.rows.gone.items;
}
