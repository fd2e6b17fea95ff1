use Rattle.profile_rules.proofs.KnownStacks.{taken_more, given_more}
use Rattle.profile_rules.proofs.constants.operands.Operands.pass.Goals as goal

pub loop-taken-preserved : goal.loop-taken-preserved
loop-taken-preserved c = taken_more c.loop-taken._taken _ _ _ c.pop-operand.ensures.left c.loop-taken.invariant

pub loop-given-preserved : goal.loop-given-preserved
loop-given-preserved c = given_more c.loop-given._given _ _ _ c.in_ok-push.ensures c.loop-given.invariant
