use Rattle.std.proofs.Common.{ap}
use Rattle.hub_ends.proofs.ProtocolSteps.{sends}
use Rattle.hub_ends.proofs.channel_ends.SendingEnd.send.Goals as goal

pub send_as-requires-clause-rule : goal.send_as-requires-clause-rule
send_as-requires-clause-rule g c = (
  sends g.M.Signed.from g.M.Signed.closes _ _ _ _ (ap (λ v. v.sends) c.args.self.now.role) c.requires.from c.requires.open,
  λ items views h at. tt,
)
