use Rattle.hub_ends.specs.ChannelEnds.{sent_by}
use Rattle.hub_ends.proofs.Verdicts.{no_bye, verdict_sent}
use Rattle.hub_ends.proofs.verdict.VerdictSender.tell.Goals as goal

pub send-requires-clause-open : goal.send-requires-clause-open
send-requires-clause-open g c = no_bye (sent_by c.args.self.now.verdicts)

pub returns-clause-told : goal.returns-clause-told
returns-clause-told g c = verdict_sent c.send.result _ _ (record { counted = c.args.counted }) c.send.ensures.sent
