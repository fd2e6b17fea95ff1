use Rattle.std.proofs.Common.{arith, ap, refl, sym, ◌∙◌, ◌<◌, length, slice_get, Some}
use Rattle.hub_ends.specs.Orders.{at, coordinator, stops}
use Rattle.hub_ends.specs.TaskChannels.{channel_on, sent_on}
use Rattle.hub_ends.specs.Messages.{closes, sender_of}
use Rattle.hub_ends.proofs.Handed.{at_map, get_map, map_same}
use Rattle.hub_ends.proofs.Handing.{channels_as}
use Rattle.hub_ends.proofs.InOrder.{in_order_as}
use Rattle.hub_ends.proofs.coordinator_ends.CoordinatorEnds.settle.Goals as goal

pub compare-orders-requires : goal.compare-orders-requires
compare-orders-requires g c =
    let task_channels = c.args.self.now.task_channels in
    get_map channel_on task_channels.items c.args.receipt.worker c.index_mut-task_channel.result.now _ (omega (arith, c.requires.worker, task_channels.ok.0)) c.index_mut-task_channel.ensures.value c.requires.hub.orders

pub returns-clause-settled : goal.returns-clause-settled
returns-clause-settled g c =
    let task_channels = c.args.self.now.task_channels in
    let w = c.args.receipt.worker in
    let task_channel = c.index_mut-task_channel.result.now in
    let here : w < length task_channels.items = omega (arith, c.requires.worker, task_channels.ok.0) in
    let same = map_same channel_on task_channels.items w task_channel c.compare-orders.new.self here c.index_mut-task_channel.ensures.value c.compare-orders.ensures.channel in
    let orders = map_same sent_on task_channels.items w task_channel c.compare-orders.new.self here c.index_mut-task_channel.ensures.value c.compare-orders.ensures.sent in
    let e = c.compare-events.ensures in
    let o = c.compare-orders.ensures in
    record {
      on = record {
        worker = refl;
        events = e.sender.channel_is ∙ c.requires.hub.events ∙ sym e.same.channel_is;
        orders = ap (λ l. slice_get l w) same ∙ c.requires.hub.orders ∙ ap (λ x. Some x) (sym o.taken.0.channel_is);
      };
      events = in_order_as sender_of closes _ _ _ _ _ _ c.args.receipt.number e.sent e.received e.in_order;
      tasks = in_order_as coordinator stops 0 0 _ _ _ _ refl (ap (λ l. at l w) orders ∙ at_map sent_on task_channels.items w task_channel here c.index_mut-task_channel.ensures.value) o.taken.1 o.order;
    }

pub returns-clause-handed : goal.returns-clause-handed
returns-clause-handed g c =
    let task_channels = c.args.self.now.task_channels in
    map_same sent_on task_channels.items c.args.receipt.worker c.index_mut-task_channel.result.now c.compare-orders.new.self (omega (arith, c.requires.worker, task_channels.ok.0)) c.index_mut-task_channel.ensures.value c.compare-orders.ensures.sent

pub returns-clause-hub : goal.returns-clause-hub
returns-clause-hub g c =
    let task_channels = c.args.self.now.task_channels in
    record {
      channels = channels_as _ _ _ _ c.compare-events.ensures.same.channel_is (map_same channel_on task_channels.items c.args.receipt.worker c.index_mut-task_channel.result.now c.compare-orders.new.self (omega (arith, c.requires.worker, task_channels.ok.0)) c.index_mut-task_channel.ensures.value c.compare-orders.ensures.channel);
      workers = refl;
    }
