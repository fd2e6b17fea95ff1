use Rattle.hub_ends.proofs.Verdicts.{verdict_more}
use Rattle.hub_ends.proofs.verdict.VerdictReader.hear.Goals as goal

pub returns-in-Ok-clause-heard : goal.returns-in-Ok-clause-heard
returns-in-Ok-clause-heard g c = verdict_more _ _ c.in-Ok.verdict c.in-Ok.ensures.received
