use Rattle.std.proofs.Common.{rules, ◌∙◌}
use Rattle.profile_rules.specs.declared.fault.ProfileRule.TheVariants.{P5, P6, P7, P8, P9}
use Rattle.profile_rules.specs.Faults.{Refuses}
use Rattle.verified.specs.Profile.{NoIndirectCalls, NoUnreachable, NoGrowth, NothingAfterBranches, EachBody}
use Rattle.verified.specs.Hosts.{call_at}
use Rattle.verified.specs.Shapes.{Keeps}
use Rattle.verified.specs.declared.shape.Shape.TheVariants as shape
use Rattle.profile_rules.proofs.HostTable.{by_table}
use Rattle.bounded_profile.proofs.Refusals.{refused_rule}
use Rattle.bounded_profile.proofs.rules.check_shapes.Goals as goal

pub returns-in_err-check_shape : goal.returns-in_err-check_shape
returns-in_err-check_shape c =
    let m = c.args.module.now in
    let e = c.in_err-check_shape.field-0.0 in
    let refused : Refuses m e = refused_rule m P5 e (NoIndirectCalls m) (λ k. k) c.in_err-check_shape.ensures in
    search rules

pub returns-in_err-check_shape-2 : goal.returns-in_err-check_shape-2
returns-in_err-check_shape-2 c =
    let m = c.args.module.now in
    let e = c.in_err-check_shape-2.field-0.0 in
    let refused : Refuses m e = refused_rule m P6 e (NoUnreachable m) (λ k. k) c.in_err-check_shape-2.ensures in
    search rules

pub returns-in_err-check_shape-3 : goal.returns-in_err-check_shape-3
returns-in_err-check_shape-3 c =
    let m = c.args.module.now in
    let e = c.in_err-check_shape-3.field-0.0 in
    let refused : Refuses m e = refused_rule m P7 e (NoGrowth m) (λ k. k) c.in_err-check_shape-3.ensures in
    search rules

pub returns-in_err-check_shape-4 : goal.returns-in_err-check_shape-4
returns-in_err-check_shape-4 c =
    let m = c.args.module.now in
    let e = c.in_err-check_shape-4.field-0.0 in
    let refused : Refuses m e = refused_rule m P8 e (NothingAfterBranches m) (λ k. k) c.in_err-check_shape-4.ensures in
    search rules

pub returns-in_err-check_shape-5 : goal.returns-in_err-check_shape-5
returns-in_err-check_shape-5 c =
    let m = c.args.module.now in
    let e = c.in_err-check_shape-5.field-0.0 in
    let table = c.deref-5.result.now in
    let same = by_table m table (c.deref-5.ensures.value ∙ c.in_ok-hosts.ensures) in
    let refused : Refuses m e = refused_rule m P9 e (EachBody (Keeps (call_at table) shape.LoopsTakeItems) m) (λ k. same.1 k) c.in_err-check_shape-5.ensures in
    search rules

pub returns : goal.returns
returns c =
    let same = by_table c.args.module.now c.deref-5.result.now (c.deref-5.ensures.value ∙ c.in_ok-hosts.ensures) in
    record {
      direct = c.in_ok-check_shape.ensures;
      reached = c.in_ok-check_shape-2.ensures;
      steady = c.in_ok-check_shape-3.ensures;
      ordered = c.in_ok-check_shape-4.ensures;
      loops = same.0 c.in_ok-check_shape-5.ensures;
    }
