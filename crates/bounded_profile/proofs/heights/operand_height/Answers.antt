use Rattle.std.proofs.Common.{◌≡◌, ◌+◌, ◌-◌, sym, subst, ◌∙◌, arith}
use Rattle.std.proofs.lemmas.List.{length-replicate}
use Rattle.cost.specs.Marks.{rank_at}
use Rattle.verified.specs.Facts.{IsHeightAt}
use Rattle.bounded_profile.specs.inside.Levels.{AreTold}
use Rattle.bounded_profile.proofs.Leveling.{told_none, height_told}
use Rattle.bounded_profile.proofs.heights.operand_height.Goals as goal

pub loop-rank-init : goal.loop-rank-init
loop-rank-init c =
    rw c.in_ok-heights.ensures (record { told = told_none c.args.valid.now c.args.ranks.now c.requires.ranked c.len.result; long = length-replicate c.len.result 0 ∙ c.len.ensures ∙ c.in_ok-arities.arities.ok.0 })

pub add_heights-requires-clause-told : goal.add_heights-requires-clause-told
add_heights-requires-clause-told c =
    let same : c.loop-rank.rank ≡ c.loop-rank.rank + 1 - 1 = omega arith in
    subst (AreTold c.args.valid.now c.args.ranks.now c.loop-rank.heights) same c.loop-rank.invariant.told

pub overflow_cast-result : goal.overflow_cast-result
overflow_cast-result c =
    let same : c.loop-rank.rank ≡ rank_at c.args.ranks.now c.args.function = omega (arith, c.rank-rank-end.ensures) in
    let told = subst (AreTold c.args.valid.now c.args.ranks.now c.loop-rank.heights) same c.loop-rank.invariant.told in
    let h = height_told c.args.valid.now c.args.ranks.now c.requires.ranked c.module-module.ensures.typed.types c.loop-rank.heights c.args.function told c.has_one_sizing.ensures c.requires.small in
    omega (arith, h.1, c.get.ensures)

pub returns : goal.returns
returns c =
    let same : c.loop-rank.rank ≡ rank_at c.args.ranks.now c.args.function = omega (arith, c.rank-rank-end.ensures) in
    let told = subst (AreTold c.args.valid.now c.args.ranks.now c.loop-rank.heights) same c.loop-rank.invariant.told in
    let h = height_told c.args.valid.now c.args.ranks.now c.requires.ranked c.module-module.ensures.typed.types c.loop-rank.heights c.args.function told c.has_one_sizing.ensures c.requires.small in
    subst (IsHeightAt c.args.valid.now c.args.function) (sym c.get.ensures) h.0
