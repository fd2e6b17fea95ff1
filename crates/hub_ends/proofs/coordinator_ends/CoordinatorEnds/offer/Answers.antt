use Rattle.std.proofs.Common.{arith, refl}
use Rattle.hub_ends.specs.TaskChannels.{channel_on, sent_on}
use Rattle.hub_ends.specs.declared.order.Order.TheVariants.{Do}
use Rattle.hub_ends.proofs.Handing.{channels_as}
use Rattle.hub_ends.proofs.Handed.{map_one, map_same, on_err, on_ok}
use Rattle.hub_ends.proofs.coordinator_ends.CoordinatorEnds.offer.Goals as goal

pub returns-clause-handed : goal.returns-clause-handed
returns-clause-handed g c =
    let task_channels = c.args.self.now.task_channels in
    on_ok _ _ c.send.result c.send.ensures.sent
    (λ e. map_one sent_on task_channels.items c.args.worker c.index_mut-task_channel.result.now c.send.new.self (Do c.args.task) (omega (arith, c.requires, task_channels.ok.0)) c.index_mut-task_channel.ensures.value e)

pub returns-clause-err : goal.returns-clause-err
returns-clause-err g c =
    let task_channels = c.args.self.now.task_channels in
    on_err _ _ c.send.result c.send.ensures.err
    (λ e. map_same sent_on task_channels.items c.args.worker c.index_mut-task_channel.result.now c.send.new.self (omega (arith, c.requires, task_channels.ok.0)) c.index_mut-task_channel.ensures.value e)

pub returns-clause-hub : goal.returns-clause-hub
returns-clause-hub g c =
    let task_channels = c.args.self.now.task_channels in
    record {
      channels = channels_as _ _ _ _ refl (map_same channel_on task_channels.items c.args.worker c.index_mut-task_channel.result.now c.send.new.self (omega (arith, c.requires, task_channels.ok.0)) c.index_mut-task_channel.ensures.value c.send.ensures.channel);
      workers = refl;
    }
