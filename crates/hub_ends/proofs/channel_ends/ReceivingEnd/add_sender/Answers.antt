use Rattle.std.proofs.Common.{ap}
use Rattle.hub_ends.proofs.ProtocolSteps.{forks}
use Rattle.hub_ends.proofs.channel_ends.ReceivingEnd.add_sender.Goals as goal

pub another-pass-requires-clause-rule : goal.another-pass-requires-clause-rule
another-pass-requires-clause-rule g c =
    forks g.M.Signed.from g.M.Signed.closes _ _ (ap (λ v. v.reads) c.args.self.now.role)
