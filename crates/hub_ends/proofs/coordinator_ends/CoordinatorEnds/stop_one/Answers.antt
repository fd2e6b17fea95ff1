use Rattle.std.proofs.Common.{arith, ap, refl, ◌∙◌, ◌<◌, length}
use Rattle.hub_ends.specs.TaskChannels.{channel_on, sent_on}
use Rattle.hub_ends.specs.Hub.{handed}
use Rattle.hub_ends.specs.Orders.{stops}
use Rattle.hub_ends.specs.Protocol.{has_bye}
use Rattle.hub_ends.specs.declared.order.Order.TheVariants.{Stop}
use Rattle.hub_ends.proofs.Handed.{at_map_set, length_map, map_maybe, map_same, on_ok, stops_keep, stops_tasks}
use Rattle.hub_ends.proofs.Handing.{channels_as}
use Rattle.hub_ends.proofs.coordinator_ends.CoordinatorEnds.stop_one.Goals as goal

pub returns-clause-stopped : goal.returns-clause-stopped
returns-clause-stopped g c =
    let task_channels = c.args.self.now.task_channels in
    on_ok _ _ c.stop.result c.stop.ensures.stopped
    (λ e. ap (has_bye stops) (at_map_set sent_on task_channels.items c.args.worker c.stop.new.self (omega (arith, c.requires, task_channels.ok.0))) ∙ e)

pub returns-clause-kept : goal.returns-clause-kept
returns-clause-kept g c =
    let task_channels = c.args.self.now.task_channels in
    let here : c.args.worker < length (handed c.args.self.now) = omega (arith, c.requires, task_channels.ok.0, length_map sent_on task_channels.items) in
    stops_keep (handed c.args.self.now) _ c.args.worker here
    (map_maybe sent_on task_channels.items c.args.worker c.index_mut-task_channel.result.now c.stop.new.self Stop (omega (arith, c.requires, task_channels.ok.0)) c.index_mut-task_channel.ensures.value c.stop.ensures.sent)

pub returns-clause-tasks : goal.returns-clause-tasks
returns-clause-tasks g c =
    let task_channels = c.args.self.now.task_channels in
    let here : c.args.worker < length (handed c.args.self.now) = omega (arith, c.requires, task_channels.ok.0, length_map sent_on task_channels.items) in
    stops_tasks (handed c.args.self.now) _ c.args.worker here
    (map_maybe sent_on task_channels.items c.args.worker c.index_mut-task_channel.result.now c.stop.new.self Stop (omega (arith, c.requires, task_channels.ok.0)) c.index_mut-task_channel.ensures.value c.stop.ensures.sent)

pub returns-clause-hub : goal.returns-clause-hub
returns-clause-hub g c =
    let task_channels = c.args.self.now.task_channels in
    record {
      channels = channels_as _ _ _ _ refl (map_same channel_on task_channels.items c.args.worker c.index_mut-task_channel.result.now c.stop.new.self (omega (arith, c.requires, task_channels.ok.0)) c.index_mut-task_channel.ensures.value c.stop.ensures.channel);
      workers = refl;
    }
