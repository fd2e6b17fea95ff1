use Rattle.std.proofs.Common.{arith}
use Rattle.cost.proofs.size.inlined_size.Goals as goal

pub returns-then-size-le-MAX_SIZE : goal.returns-then-size-le-MAX_SIZE
returns-then-size-le-MAX_SIZE c s a = let e = c.requires.sized s a c.args.function in (omega (arith, e), omega (arith, e))

pub returns-else-size-le-MAX_SIZE : goal.returns-else-size-le-MAX_SIZE
returns-else-size-le-MAX_SIZE c s a = let e = c.requires.sized s a c.args.function in omega (arith, e)
