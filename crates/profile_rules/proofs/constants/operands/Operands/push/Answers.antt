use Rattle.profile_rules.proofs.KnownStacks.{stacked}
use Rattle.profile_rules.proofs.constants.operands.Operands.push.Goals as goal

pub returns : goal.returns
returns c = stacked _ _ _ c.in_ok-push.ensures.items
