-- The rule of each shape.
use Rattle.profile_rules.specs.declared.fault.ProfileRule.{ProfileRule}
use Rattle.profile_rules.specs.declared.fault.ProfileRule.TheVariants.{P5, P6, P7, P8, P9}
use Rattle.verified.specs.declared.shape.Shape.{Shape}
use Rattle.verified.specs.declared.shape.Shape.TheVariants as shape

abbrev pub rule_of : Shape → ProfileRule
rule_of shape.NoIndirectCalls = P5
rule_of shape.NoUnreachable = P6
rule_of shape.NoGrowth = P7
rule_of shape.NothingAfterBranches = P8
rule_of shape.LoopsTakeItems = P9
