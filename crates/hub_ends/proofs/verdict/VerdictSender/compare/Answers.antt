use Rattle.hub_ends.proofs.Verdicts.{verdict_prefix}
use Rattle.hub_ends.proofs.verdict.VerdictSender.compare.Goals as goal

pub returns-clause-prefix : goal.returns-clause-prefix
returns-clause-prefix c = verdict_prefix _ _ _ c.args.self.now.number c.compare-verdicts.ensures.in_order.begins
