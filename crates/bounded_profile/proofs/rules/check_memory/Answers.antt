use Rattle.std.proofs.Common.{rules, subst}
use Rattle.profile_rules.specs.declared.fault.ProfileRule.TheVariants.{P10}
use Rattle.profile_rules.specs.Faults.{Denies, Refuses}
use Rattle.verified.specs.Known.{ConstantsKnown}
use Rattle.verified.specs.Memory.{MinimumsWithin, SegmentsWithin}
use Rattle.verified.specs.Profile.{asks_addresses}
use Rattle.bounded_profile.proofs.Refusals.{refused_rule}
use Rattle.bounded_profile.proofs.rules.check_memory.Goals as goal

pub returns-in_err-check_minimums : goal.returns-in_err-check_minimums
returns-in_err-check_minimums c =
    let m = c.args.valid.now in
    let e = c.in_err-check_minimums.field-0.0 in
    let refused : Refuses m e = refused_rule m P10 e (MinimumsWithin m) (λ k. k.0.minimums) (subst (λ n. Denies P10 e (MinimumsWithin n)) c.module-module.ensures.value c.in_err-check_minimums.ensures) in
    search rules

pub returns-in_err-check_known : goal.returns-in_err-check_known
returns-in_err-check_known c =
    let m = c.args.valid.now in
    let e = c.in_err-check_known.field-0.0 in
    let refused : Refuses m e = refused_rule m P10 e (ConstantsKnown asks_addresses m) (λ k. k.1) c.in_err-check_known.ensures in
    search rules

pub returns-in_err-check_segments : goal.returns-in_err-check_segments
returns-in_err-check_segments c =
    let m = c.args.valid.now in
    let e = c.in_err-check_segments.field-0.0 in
    let refused : Refuses m e = refused_rule m P10 e (SegmentsWithin m) (λ k. k.0.segments) (subst (λ n. Denies P10 e (SegmentsWithin n)) c.module-module.ensures.value c.in_err-check_segments.ensures) in
    search rules
