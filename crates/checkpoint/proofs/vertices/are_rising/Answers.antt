use Rattle.std.proofs.Common.{◌≡◌, ◌+◌, ◌-◌, ◌∙◌, arith, sym}
use Rattle.checkpoint.proofs.Rows.{rising_breaks, rising_end, rising_more}
use Rattle.checkpoint.proofs.vertices.are_rising.Goals as goal

pub returns-then-next-last : goal.returns-then-next-last
returns-then-next-last c =
    sym (rising_breaks c.args.vertices.now (c.loop-index.index - 1) c.loop-index.index _ _ (omega arith) c.loop-index-test.true c.if-next-last.true)
    ∙ c.loop-index.invariant

pub loop-index-preserved : goal.loop-index-preserved
loop-index-preserved c =
    let next : (c.loop-index.index + 1) - 1 ≡ c.loop-index.index = omega arith in
    rw next (sym (rising_more c.args.vertices.now (c.loop-index.index - 1) c.loop-index.index _ _ (omega arith) c.loop-index-test.true c.if-next-last.false)
    ∙ c.loop-index.invariant)

pub returns : goal.returns
returns c = sym (rising_end c.args.vertices.now (c.loop-index.index - 1) (omega arith)) ∙ c.loop-index.invariant
