-- The seven lowest bits of a signed number, and the bits above them.
use Rattle.std.proofs.Common.{is_le, is_lt, int_cmp, ◌&&◌, ltb, ◌≡◌, ℕ, ℤ, pos, negsuc, ◌+ℤ◌, ◌*ℤ◌, ◌≤ℤ◌, ◌<ℤ◌, ◌+◌, ◌<◌, true, arith}
use Rattle.std.proofs.lemmas.Bool.{lt-ltb}
use Rattle.std.proofs.lemmas.Bool.Decides.{nat_tests}
use Rattle.std.proofs.lemmas.Int.{ints}
use Rattle.leb.specs.Spelling.{FitsBits, fits_seven_bits, low_bits, high_bits}
use Rattle.leb.proofs.Powers.{half-seven_more}

pub fits_seven_bits-within : (z : ℤ) → (negsuc 63) ≤ℤ z → z <ℤ (pos 64) → fits_seven_bits z ≡ true
fits_seven_bits-within (pos n) low high = lt-ltb n 64 (omega (arith, ints))
fits_seven_bits-within (negsuc n) low high = lt-ltb n 64 (omega (arith, ints))

-- the same as a test of a range
below_64 : (n : ℕ) → ltb n 64 ≡ is_lt (int_cmp (pos n) (pos 64))
below_64 n = grind (arith, nat_tests)

from_minus_64 : (n : ℕ) → ltb n 64 ≡ (is_le (int_cmp (negsuc 63) (negsuc n)) && true)
from_minus_64 n = grind (arith, nat_tests)

pub fits_seven_bits-in_range : (z : ℤ) → fits_seven_bits z ≡ (is_le (int_cmp (negsuc 63) z) && is_lt (int_cmp z (pos 64)))
fits_seven_bits-in_range (pos n) = below_64 n
fits_seven_bits-in_range (negsuc n) = from_minus_64 n

pub low_bits_below : (z : ℤ) → low_bits z < 128
low_bits_below (pos n) = omega arith
low_bits_below (negsuc n) = omega arith

pub high_low_bits : (z : ℤ) → z ≡ ((high_bits z *ℤ (pos 128)) +ℤ (pos (low_bits z)))
high_low_bits (pos n) = omega (arith, ints)
high_low_bits (negsuc n) = omega (arith, ints)

pub high_bits_is : (z m : ℤ) (low : ℕ) → low < 128 → z ≡ ((m *ℤ (pos 128)) +ℤ (pos low)) → high_bits z ≡ m
high_bits_is (pos n) m low small e = omega (arith, ints)
high_bits_is (negsuc n) m low small e = omega (arith, ints)

pub FitsBits-high_bits : (bits fewer : ℕ) (z : ℤ) → bits ≡ 7 + fewer → 0 < fewer → FitsBits bits z → FitsBits fewer (high_bits z)
FitsBits-high_bits bits fewer (pos n) more some fits =
    let half = half-seven_more bits fewer more some in
    record { low = omega (arith, ints); high = omega (arith, ints, half, fits.high) }
FitsBits-high_bits bits fewer (negsuc n) more some fits =
    let half = half-seven_more bits fewer more some in
    record { low = omega (arith, ints, half, fits.low); high = omega (arith, ints) }
