use Rattle.std.proofs.Common.{ap}
use Rattle.hub_ends.proofs.ProtocolSteps.{begins, forks}
use Rattle.hub_ends.proofs.channel_ends.ReceivingEnd.open.Goals as goal

pub bounded_with-requires-clause-rule : goal.bounded_with-requires-clause-rule
bounded_with-requires-clause-rule g c = begins g.M.Signed.from g.M.Signed.closes

pub another-first-requires-clause-rule : goal.another-first-requires-clause-rule
another-first-requires-clause-rule g c =
    forks g.M.Signed.from g.M.Signed.closes _ _ (ap (λ v. v.reads) c.in_ok-to.ensures.3)
