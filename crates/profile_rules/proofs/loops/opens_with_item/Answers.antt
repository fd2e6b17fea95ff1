use Rattle.std.proofs.Common.{arith}
use Rattle.verified.specs.Hosts.{call_at}
use Rattle.profile_rules.proofs.LoopEnds.{too_short}
use Rattle.profile_rules.proofs.loops.opens_with_item.Goals as goal

pub returns-in_default : goal.returns-in_default
returns-in_default c =
    (λ f. absurd cc, λ o. absurd (too_short (call_at c.args.hosts.now) c.args.instrs.now (omega arith) o))
