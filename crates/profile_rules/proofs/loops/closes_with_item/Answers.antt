use Rattle.std.proofs.Common.{◌-◌, length, arith}
use Rattle.verified.specs.Hosts.{call_at}
use Rattle.profile_rules.proofs.LoopEnds.{closing, too_few}
use Rattle.profile_rules.proofs.Nested.{within_front}
use Rattle.profile_rules.proofs.loops.closes_with_item.Goals as goal

pub names_not-requires : goal.names_not-requires
names_not-requires c = within_front _ c.args.instrs.now (length c.args.instrs.now - 2) c.requires

pub returns-in_default : goal.returns-in_default
returns-in_default c = (λ f. absurd cc, λ o. absurd (too_few (call_at c.args.hosts.now) c.args.instrs.now (omega arith) o))

pub returns-then-goes_back_with_item : goal.returns-then-goes_back_with_item
returns-then-goes_back_with_item c =
    let calls = call_at c.args.hosts.now in
    let both = closing calls c.args.instrs.now c.call-item.result c.back-item.result (omega arith) c.call-item.is c.back-item.is in
    (λ t. both.1 (c.goes_back_with_item.ensures.0 c.if-goes_back_with_item.true, c.names_not.ensures.0 t), λ o. c.names_not.ensures.1 (both.0 o).1)

pub returns-else-goes_back_with_item : goal.returns-else-goes_back_with_item
returns-else-goes_back_with_item c =
    let calls = call_at c.args.hosts.now in
    let both = closing calls c.args.instrs.now c.call-item.result c.back-item.result (omega arith) c.call-item.is c.back-item.is in
    (λ t. absurd cc, λ o. c.goes_back_with_item.ensures.1 (both.0 o).0)
