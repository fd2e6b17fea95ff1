use Rattle.std.proofs.Common.{◌-◌, ◌<◌, arith}
use Rattle.leb.proofs.Powers.{below_seven_more, pow_at_most}
use Rattle.leb.proofs.read.+unsigned.Goals as goal

pub overflow_mul-result : goal.overflow_mul-result
overflow_mul-result t c =
    let read = c.in_ok-high in
    omega (arith, below_seven_more c.args.bits read.high 0 (omega arith) read.ensures.below (omega arith), pow_at_most c.args.bits 32 c.requires)

pub overflow_add-result-else-bits-le7 : goal.overflow_add-result-else-bits-le7
overflow_add-result-else-bits-le7 t c =
    let read = c.in_ok-high in
    let low : c.from-byte.result - 128 < 128 = omega (arith, c.type_inv.bytes c.args.at) in
    omega (arith, below_seven_more c.args.bits read.high (c.from-byte.result - 128) (omega arith) read.ensures.below low, pow_at_most c.args.bits 32 c.requires)

pub returns-in_ok-high-clause-below : goal.returns-in_ok-high-clause-below
returns-in_ok-high-clause-below t c =
    let read = c.in_ok-high in
    let low : c.from-byte.result - 128 < 128 = omega (arith, c.type_inv.bytes c.args.at) in
    omega (arith, below_seven_more c.args.bits read.high (c.from-byte.result - 128) (omega arith) read.ensures.below low)

pub returns-then-from-bits-clause-below : goal.returns-then-from-bits-clause-below
returns-then-from-bits-clause-below t c = omega (arith, c.from.ensures, c.if-from-bits.true)
