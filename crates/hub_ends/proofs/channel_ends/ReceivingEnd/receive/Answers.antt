use Rattle.std.proofs.Common.{ap}
use Rattle.hub_ends.proofs.ProtocolSteps.{receives}
use Rattle.hub_ends.proofs.channel_ends.ReceivingEnd.receive.Goals as goal

pub recv_as-requires-clause-rule : goal.recv_as-requires-clause-rule
recv_as-requires-clause-rule g c = (
  receives g.M.Signed.from g.M.Signed.closes _ _ (ap (λ v. v.reads) c.args.self.now.role),
  λ items views h at. tt,
)
