use Rattle.std.proofs.Common.{◌≡◌, ℕ, List, Vec, Global, true, subst, sym}
use Rattle.std.proofs.lemmas.Bool.{both_ways}
use Rattle.std.specs.List.{AllByRecursion}
use Rattle.inbox.specs.inside.Shares.{has}
use Rattle.inbox.proofs.InShares.{each_at, each_more}
use Rattle.inbox.proofs.shares.TargetSet.has_all.Goals as goal

pub returns-then-not-has_each : goal.returns-then-not-has_each
returns-then-not-has_each c =
    let each : List ℕ → Type 0 = AllByRecursion (λ id. has c.args.self id ≡ true) in
    let own = each_at (λ (ids : Vec ℕ Global). each ids.items) c.args.parts.now c.loop-ids.ids-index c.ids-item.result c.loop-ids-test.true c.ids-item.is in
    (λ bad. absurd cc, λ all. absurd (both_ways _ c.if-not-has_each.true (c.has_each.ensures.1 (subst each (sym c.deref.ensures.value) (own all)))))

pub loop-ids-preserved : goal.loop-ids-preserved
loop-ids-preserved c =
    let each : List ℕ → Type 0 = AllByRecursion (λ id. has c.args.self id ≡ true) in
    each_more (λ (ids : Vec ℕ Global). each ids.items) c.args.parts.now c.loop-ids.ids-index c.ids-item.result c.loop-ids-test.true c.ids-item.is c.loop-ids.invariant (subst each c.deref.ensures.value (c.has_each.ensures.0 c.if-not-has_each.false))
