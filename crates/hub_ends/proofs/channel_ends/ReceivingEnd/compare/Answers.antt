use Rattle.std.proofs.Common.{ap, ◌∙◌}
use Rattle.crossbeam_channel.specs.Claims.{view}
use Rattle.hub_ends.proofs.ProtocolSteps.{joins, learns, parts}
use Rattle.hub_ends.proofs.channel_ends.ReceivingEnd.compare.Goals as goal

pub absorb-requires-clause-rule : goal.absorb-requires-clause-rule
absorb-requires-clause-rule g c =
    joins g.M.Signed.from g.M.Signed.closes _ _ _ _ (ap (λ v. v.reads) c.args.self.now.role)
    (ap (λ v. v.sends) (ap (λ p. view p) c.into_parts-to.ensures.pass ∙ c.args.sender.role))

pub learn_as-requires-clause-rule : goal.learn_as-requires-clause-rule
learn_as-requires-clause-rule g c =
    let r = c.absorb.ensures.rule in
    learns g.M.Signed.from g.M.Signed.closes _ _ (ap (λ v. v.reads) r) (ap (λ v. v.sends) r)

pub another-pass-requires-clause-rule : goal.another-pass-requires-clause-rule
another-pass-requires-clause-rule g c =
    let r = c.learn_as.ensures.channel.2 ∙ c.absorb.ensures.rule in
    parts g.M.Signed.from g.M.Signed.closes _ _ (ap (λ v. v.reads) r) (ap (λ v. v.sends) r)
