-- Seven bits more: what the ranges of numbers become.
use Rattle.std.proofs.Common.{◌≡◌, ℕ, ◌+◌, ◌-◌, ◌*◌, ◌^◌, ◌<◌, ◌≤◌, ap, ◌∙◌, arith}
use Rattle.std.proofs.lemmas.Nat.{pow-add}
use Rattle.std.proofs.Math.Pow.{pow_mono}

pub pow-seven_more : (bits fewer : ℕ) → bits ≡ 7 + fewer → 2 ^ bits ≡ 128 * 2 ^ fewer
pow-seven_more bits fewer e = ap (λ (k : ℕ). 2 ^ k) e ∙ pow-add 2 7 fewer

-- the same for half the range, of signed numbers
pub half-seven_more : (bits fewer : ℕ) → bits ≡ 7 + fewer → 0 < fewer → 2 ^ (bits - 1) ≡ 128 * 2 ^ (fewer - 1)
half-seven_more bits fewer e some = pow-seven_more (bits - 1) (fewer - 1) (omega arith)

pub pow_at_most : (bits most : ℕ) → bits ≤ most → 2 ^ bits ≤ 2 ^ most
pow_at_most bits most le = pow_mono le

pub half_at_most : (bits most : ℕ) → bits ≤ most → 2 ^ (bits - 1) ≤ 2 ^ (most - 1)
half_at_most bits most le = pow_at_most (bits - 1) (most - 1) (omega arith)

-- a number with seven bits more below it is in the range
pub below_seven_more : (bits high low : ℕ) → 7 < bits → high < 2 ^ (bits - 7) → low < 128 → 128 * high + low < 2 ^ bits
below_seven_more bits high low lt below small = rw (pow-seven_more bits (bits - 7) (omega arith)) (omega arith)
