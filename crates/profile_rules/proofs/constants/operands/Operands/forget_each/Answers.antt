use Rattle.std.proofs.Common.{arith, ◌<◌, length, ◌∙◌}
use Rattle.profile_rules.specs.inside.Tracking.{operands_of}
use Rattle.profile_rules.proofs.KnownStacks.{forget_more}
use Rattle.profile_rules.proofs.constants.operands.Operands.forget_each.Goals as goal

pub loop-taken-preserved : goal.loop-taken-preserved
loop-taken-preserved c =
    let h : c.loop-taken.taken-index < length c.args.types.now = omega arith in
    c.loop-taken.invariant ∙ forget_more c.args.types.now c.loop-taken.taken-index (operands_of c.loop-taken.self) (operands_of c.pop-operand.new.self) h c.pop-operand.ensures.left
