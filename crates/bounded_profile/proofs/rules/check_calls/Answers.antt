use Rattle.std.proofs.Common.{rules, refl, subst, sym}
use Rattle.cost.specs.Marks.{rank_at}
use Rattle.profile_rules.specs.declared.fault.ProfileRule.TheVariants.{P13, P14}
use Rattle.profile_rules.specs.Faults.{Refuses}
use Rattle.verified.specs.Known.{ConstantsKnown}
use Rattle.verified.specs.Profile.{SizeWithin, asks_slots}
use Rattle.bounded_profile.proofs.Refusals.{refused_rule, refused_cycle}
use Rattle.bounded_profile.proofs.rules.check_calls.Goals as goal

pub returns-in_err-ranks : goal.returns-in_err-ranks
returns-in_err-ranks c =
    let m = c.args.valid.now in
    let e = c.in_err-ranks.field-0.0 in
    let refused : Refuses m e = refused_cycle m e c.in_err-ranks.ensures.decided in
    search rules

pub returns-in_err-check_known : goal.returns-in_err-check_known
returns-in_err-check_known c =
    let m = c.args.valid.now in
    let e = c.in_err-check_known.field-0.0 in
    let refused : Refuses m e = refused_rule m P13 e (ConstantsKnown asks_slots m) (λ k. k) c.in_err-check_known.ensures in
    search rules

pub returns-in_err-size : goal.returns-in_err-size
returns-in_err-size c =
    let m = c.args.valid.now in
    let e = c.in_err-size.field-0.0 in
    let compute = c.requires.number.compute in
    let refused : Refuses m e = refused_rule m P14 e (SizeWithin m c.args.compute) (λ k. subst (SizeWithin m) c.requires.number.here (k compute)) c.in_err-size.ensures in
    search rules

pub returns : goal.returns
returns c =
    let ranked = c.in_ok-ranks.ensures.ranked in
    ((record { acyclic = c.in_ok-ranks.ensures.decided; size = c.in_ok-size.ensures.0 }, record { number = refl; size = c.in_ok-size.ensures.1; operands = c.in_ok-max_operands.ensures; frames = (rank_at c.in_ok-ranks.ranks, ranked.least, sym c.rank-max_frames.ensures) }), c.in_ok-check_known.ensures)
