use Rattle.std.proofs.Common.{inl, inr}
use Rattle.hub_ends.specs.TaskChannels.{sent_on}
use Rattle.hub_ends.proofs.Handed.{on_either, on_ok, stop_sent}
use Rattle.hub_ends.proofs.task_channel.TaskChannel.stop.Goals as goal

pub returns-clause-stopped : goal.returns-clause-stopped
returns-clause-stopped g c =
    on_ok _ _ c.send.result c.send.ensures.sent
    (λ e. stop_sent {J = g.row.J.Denot} (sent_on c.args.self.now) (sent_on c.send.new.self) e)

pub returns-clause-sent : goal.returns-clause-sent
returns-clause-sent g c =
    on_either _ _ _ c.send.result c.send.ensures.sent c.send.ensures.err (λ e. inr e) (λ e. inl e)
