use Rattle.std.proofs.Common.{arith, rules}
use Rattle.control.proofs.ByPlace.{count_small}
use Rattle.control.proofs.control.Control.new.Goals as goal

pub invariant_of-result : goal.invariant_of-result
invariant_of-result c =
    let alive = c.in_ok-alive.ensures.len in (
      omega (arith, c.in_ok-waiting.ensures.len, alive),
      omega (arith, c.in_ok-out.ensures.len, alive),
      omega (arith, c.in_ok-age.ensures.len, alive),
      omega (arith, c.in_ok-spent.ensures.len, alive),
      omega (arith, alive, c.requires.workers),
      omega (arith, count_small c.in_ok-alive.alive.items, count_small c.in_ok-waiting.waiting.items, c.in_ok-waiting.ensures.len, alive),
      c.requires.every,
      search rules,
      omega (arith, c.in_ok-done.ensures.len, c.requires.parts),
    )
