use Rattle.std.proofs.Common.{rules}
use Rattle.profile_rules.specs.declared.fault.ProfileRule.TheVariants.{P1, P2, P3, P4}
use Rattle.profile_rules.specs.Faults.{Refuses}
use Rattle.verified.specs.Profile.{ImportsHostCalls, HasCompute, NoStart, NoElements}
use Rattle.bounded_profile.proofs.Refusals.{refused_rule}
use Rattle.bounded_profile.proofs.rules.check_parts.Goals as goal

pub returns-in_err-check_imports : goal.returns-in_err-check_imports
returns-in_err-check_imports c =
    let m = c.args.module.now in
    let e = c.in_err-check_imports.field-0.0 in
    let refused : Refuses m e = refused_rule m P1 e (ImportsHostCalls m) (λ k. k) c.in_err-check_imports.ensures in
    search rules

pub returns-in_err-compute : goal.returns-in_err-compute
returns-in_err-compute c =
    let m = c.args.module.now in
    let e = c.in_err-compute.field-0.0 in
    let refused : Refuses m e = refused_rule m P2 e (HasCompute m) (λ k. k) c.in_err-compute.ensures in
    search rules

pub returns-in_err-check_start : goal.returns-in_err-check_start
returns-in_err-check_start c =
    let m = c.args.module.now in
    let e = c.in_err-check_start.field-0.0 in
    let refused : Refuses m e = refused_rule m P3 e (NoStart m) (λ k. k) c.in_err-check_start.ensures in
    search rules

pub returns-in_err-check_elements : goal.returns-in_err-check_elements
returns-in_err-check_elements c =
    let m = c.args.module.now in
    let e = c.in_err-check_elements.field-0.0 in
    let refused : Refuses m e = refused_rule m P4 e (NoElements m) (λ k. k) c.in_err-check_elements.ensures in
    search rules
