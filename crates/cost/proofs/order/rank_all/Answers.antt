use Rattle.std.proofs.Common.{◌+◌, ℕ, arith}
use Rattle.cost.proofs.Ranking.{starts, none_open}
use Rattle.cost.proofs.order.rank_all.Goals as goal

pub loop-function-init : goal.loop-function-init
loop-function-init c =
    let n : ℕ = c.args.outlines.now.imported + c.len.result in
    rw c.in_ok-ranks.ensures (record {
      settled = starts c.args.outlines.now n (omega (arith, c.len.ensures));
      none_open = none_open n;
      done = λ f h. absurd (omega arith);
    })

pub returns-in-Err-clause-cycle : goal.returns-in-Err-clause-cycle
returns-in-Err-clause-cycle c = c.explain.ensures _ _ _ c.in-Err.ensures.leaves c.in-Err.ensures.fresh
