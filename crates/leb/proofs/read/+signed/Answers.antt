use Rattle.std.proofs.Common.{◌-◌, arith}
use Rattle.std.proofs.lemmas.Int.{ints}
use Rattle.leb.proofs.Powers.{half-seven_more, half_at_most}
use Rattle.leb.proofs.Signed.{signed_at-low, signed_at-low_unused, signed_at-high, signed_at-high_unused, signed_at-too_long, signed_at-more}
use Rattle.leb.proofs.read.+signed.Goals as goal

pub overflow_mul-result : goal.overflow_mul-result
overflow_mul-result t c =
    let x = c.in_ok-high in
    let a = half-seven_more c.args.bits (c.args.bits - 7) (omega arith) (omega arith) in
    let b = half_at_most c.args.bits 64 c.requires.most in
    omega (arith, ints, a, b, x.ensures.fits.low, x.ensures.fits.high)

pub overflow_add-result-else-bits-le7 : goal.overflow_add-result-else-bits-le7
overflow_add-result-else-bits-le7 t c =
    let x = c.in_ok-high in
    let a = half-seven_more c.args.bits (c.args.bits - 7) (omega arith) (omega arith) in
    let b = half_at_most c.args.bits 64 c.requires.most in
    omega (arith, ints, a, b, x.ensures.fits.low, x.ensures.fits.high, c.from-byte.ensures, c.type_inv.bytes c.args.at)

pub returns-then-from-half-clause-fits : goal.returns-then-from-half-clause-fits
returns-then-from-half-clause-fits t c =
    let b = half_at_most c.args.bits 64 c.requires.most in
    record {
      low = omega (arith, ints, c.from-byte.ensures, c.type_inv.bytes c.args.at);
      high = omega (arith, ints, b, c.from-byte.ensures, c.type_inv.bytes c.args.at, c.if-from-half.true);
    }

pub returns-then-from-half-clause-exact : goal.returns-then-from-half-clause-exact
returns-then-from-half-clause-exact t c =
    let b = half_at_most c.args.bits 64 c.requires.most in
    signed_at-low c.args.bits c.args.bytes.now c.args.at _ (omega arith)
    (omega (arith, ints, c.from-byte.ensures)) (omega (arith, ints, b, c.from-byte.ensures, c.if-from-half.true))
    (omega (arith, ints, c.from-byte.ensures, c.type_inv.bytes c.args.at))

pub returns-then-from-half-ge128-clause-fits : goal.returns-then-from-half-ge128-clause-fits
returns-then-from-half-ge128-clause-fits t c =
    let b = half_at_most c.args.bits 64 c.requires.most in
    record {
      low = omega (arith, ints, b, c.from-byte.ensures, c.type_inv.bytes c.args.at, c.if-from-half-ge128.true);
      high = omega (arith, ints, c.from-byte.ensures, c.type_inv.bytes c.args.at);
    }

pub returns-then-from-half-ge128-clause-exact : goal.returns-then-from-half-ge128-clause-exact
returns-then-from-half-ge128-clause-exact t c =
    let b = half_at_most c.args.bits 64 c.requires.most in
    signed_at-high c.args.bits c.args.bytes.now c.args.at _ (omega arith)
    (omega (arith, ints, c.from-byte.ensures)) (omega (arith, ints, c.from-byte.ensures))
    (omega (arith, ints, b, c.from-byte.ensures, c.if-from-half-ge128.true))
    (omega (arith, ints, c.from-byte.ensures, c.type_inv.bytes c.args.at))

pub returns-then-bits-le7-clause-exact : goal.returns-then-bits-le7-clause-exact
returns-then-bits-le7-clause-exact t c =
    signed_at-too_long c.args.bits c.args.bytes.now c.args.at (omega arith) (omega (arith, ints, c.from-byte.ensures)) (omega arith)

pub returns-else-from-half-clause-exact : goal.returns-else-from-half-clause-exact
returns-else-from-half-clause-exact t c =
    let b = half_at_most c.args.bits 64 c.requires.most in
    signed_at-low_unused c.args.bits c.args.bytes.now c.args.at (omega arith)
    (omega (arith, ints, c.from-byte.ensures)) (omega (arith, ints, b, c.from-byte.ensures, c.if-from-half.false))

pub returns-else-from-half-ge128-clause-exact : goal.returns-else-from-half-ge128-clause-exact
returns-else-from-half-ge128-clause-exact t c =
    let b = half_at_most c.args.bits 64 c.requires.most in
    signed_at-high_unused c.args.bits c.args.bytes.now c.args.at (omega arith)
    (omega (arith, ints, c.from-byte.ensures)) (omega (arith, ints, c.from-byte.ensures))
    (omega (arith, ints, b, c.from-byte.ensures, c.if-from-half-ge128.false))

pub returns-in_ok-high-clause-fits : goal.returns-in_ok-high-clause-fits
returns-in_ok-high-clause-fits t c =
    let x = c.in_ok-high in
    let a = half-seven_more c.args.bits (c.args.bits - 7) (omega arith) (omega arith) in
    let b = half_at_most c.args.bits 64 c.requires.most in
    record {
      low = omega (arith, ints, a, b, x.ensures.fits.low, x.ensures.fits.high, c.from-byte.ensures, c.type_inv.bytes c.args.at);
      high = omega (arith, ints, a, b, x.ensures.fits.low, x.ensures.fits.high, c.from-byte.ensures, c.type_inv.bytes c.args.at);
    }

pub returns-in_ok-high-clause-exact : goal.returns-in_ok-high-clause-exact
returns-in_ok-high-clause-exact t c =
    let x = c.in_ok-high in
    let a = half-seven_more c.args.bits (c.args.bits - 7) (omega arith) (omega arith) in
    let b = half_at_most c.args.bits 64 c.requires.most in
    signed_at-more c.args.bits c.args.bytes.now c.args.at x.high _ _ (omega arith) (omega (arith, ints, c.from-byte.ensures)) (omega arith) x.ensures.exact
    (omega (arith, ints, a, b, x.ensures.fits.low, x.ensures.fits.high, c.from-byte.ensures, c.type_inv.bytes c.args.at))
