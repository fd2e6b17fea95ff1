use Rattle.std.proofs.Common.{ap, ◌∙◌}
use Rattle.crossbeam_channel.specs.Claims.{view}
use Rattle.hub_ends.proofs.ProtocolSteps.{gives, learns, takes}
use Rattle.hub_ends.proofs.channel_ends.SendingEnd.compare.Goals as goal

pub absorb-requires-clause-rule : goal.absorb-requires-clause-rule
absorb-requires-clause-rule g c =
    takes g.M.Signed.from g.M.Signed.closes _ _ _ _ (ap (λ v. v.sends) c.args.self.now.role)
    (ap (λ v. v.reads) (ap (λ p. view p) c.into_parts-from.ensures.pass ∙ c.args.reader.role))

pub learn_as-requires-clause-rule : goal.learn_as-requires-clause-rule
learn_as-requires-clause-rule g c =
    let r = c.absorb.ensures.rule in
    learns g.M.Signed.from g.M.Signed.closes _ _ (ap (λ v. v.reads) r) (ap (λ v. v.sends) r)

pub another-pass-requires-clause-rule : goal.another-pass-requires-clause-rule
another-pass-requires-clause-rule g c =
    let r = c.learn_as.ensures.channel.2 ∙ c.absorb.ensures.rule in
    gives g.M.Signed.from g.M.Signed.closes _ _ (ap (λ v. v.reads) r) (ap (λ v. v.sends) r)
