use Rattle.profile_rules.proofs.KnownStacks.{topmost, left}
use Rattle.profile_rules.proofs.constants.operands.Operands.pop.Goals as goal

pub returns-in-Some : goal.returns-in-Some
returns-in-Some c = record {
  topmost = topmost _ _ _ c.in-Some.ensures.items;
  left = left _ _ _ c.in-Some.ensures.items;
}
