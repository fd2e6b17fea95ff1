use Rattle.std.proofs.Common.{◌≡◌, ◌+◌, ◌<◌, min, length, arith, sym, ap, ◌∙◌}
use Rattle.std.specs.Prelude.{sum_by}
use Rattle.cost.specs.inside.Outline.{cap}
use Rattle.cost.specs.inside.Outlines.{outline_at, own_at, called}
use Rattle.cost.specs.Marks.{size_at}
use Rattle.cost.proofs.Walking.{begins, has_mark, called_there, goes_on, room, ends, unseen_before}
use Rattle.cost.proofs.walk.+visit.Goals as goal

pub loop-callee-init : goal.loop-callee-init
loop-callee-init t c = rw c.open.ensures (begins c.args.outlines.now c.args.function c.args.ranks.now c.requires.settled (sym c.in-Unseen.ensures) c.called-callees.result.now)

pub returns-in-Err-clause-leaves : goal.returns-in-Err-clause-leaves
returns-in-Err-clause-leaves t c =
    c.extend.ensures.leaves _ _ (called_there c.args.outlines.now c.args.function c.called-callees.result.now c.loop-callee.callee-index c.called-callees.ensures c.loop-callee-test.true) c.in-Err.ensures.leaves

pub returns-in-Err-clause-fresh : goal.returns-in-Err-clause-fresh
returns-in-Err-clause-fresh t c =
    c.extend.ensures.fresh _ _ (unseen_before c.args.outlines.now c.args.function c.args.ranks.now c.loop-callee.ranks c.called-callees.result.now c.loop-callee.callee-index c.loop-callee.invariant) (sym c.in-Unseen.ensures) c.loop-callee.invariant.open_here c.in-Err.ensures.fresh

pub height-rank-requires : goal.height-rank-requires
height-rank-requires t c =
    let lt : c.args.function < length c.loop-callee.ranks = omega (arith, c.requires.settled.long, c.loop-callee.invariant.settled.long, has_mark c.args.ranks.now c.args.function (sym c.in-Unseen.ensures)) in
    let r = room c.args.outlines.now c.args.function c.loop-callee.ranks (called c.args.outlines.now c.args.function) c.loop-callee.invariant.settled c.loop-callee.invariant.open_here lt in
    omega (arith, r, c.requires.small, c.requires.settled.long, c.loop-callee.invariant.settled.long)

pub returns-clause-walked : goal.returns-clause-walked
returns-clause-walked t c =
    let lt : c.args.function < length c.loop-callee.ranks = omega (arith, c.requires.settled.long, c.loop-callee.invariant.settled.long, has_mark c.args.ranks.now c.args.function (sym c.in-Unseen.ensures)) in
    let size : c.whole_size-size.result ≡ min cap (own_at (outline_at c.args.outlines.now c.args.function) + sum_by (size_at c.loop-callee.ranks) c.called-callees.result.now) = c.whole_size-size.ensures ∙ ap (λ n. min cap (n + sum_by (size_at c.loop-callee.ranks) c.called-callees.result.now)) c.own.ensures in
    rw c.finish.ensures (ends c.args.outlines.now c.args.function c.args.ranks.now c.loop-callee.ranks c.height-rank.result c.whole_size-size.result (sym c.in-Unseen.ensures) lt c.called-callees.result.now c.loop-callee.callee-index c.called-callees.ensures c.loop-callee-test.false c.loop-callee.invariant c.height-rank.ensures size)

pub loop-callee-preserved : goal.loop-callee-preserved
loop-callee-preserved t c =
    goes_on c.args.outlines.now c.args.function c.args.ranks.now c.loop-callee.ranks c.visit.new.ranks c.called-callees.result.now c.loop-callee.callee-index
    c.loop-callee.invariant c.in_default.ensures.walked
