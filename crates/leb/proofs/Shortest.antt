-- The shortest spelling is a spelling, and no spelling is shorter.
use Rattle.std.proofs.Common.{◌≡◌, ℕ, ℤ, pos, negsuc, ◌+ℤ◌, ◌*ℤ◌, zero, suc, ◌+◌, ◌-◌, ◌*◌, ◌/◌, ◌^◌, ◌<◌, ◌≤◌, inl, inr, true, false, List, [], ◌∷◌, length, refl, arith}
use Rattle.std.proofs.lemmas.Bool.{lt-ltb, le-ltb, cases_lt, cases_Bool, ltb-true}
use Rattle.std.proofs.lemmas.Int.{ints}
use Rattle.leb.specs.Spelling.{IsUnsigned, IsSigned, FitsBits, fits_seven_bits, low_bits, high_bits, shortest_unsigned, shortest_signed}
use Rattle.leb.proofs.Bits.{fits_seven_bits-within, low_bits_below, high_low_bits, high_bits_is, FitsBits-high_bits}
use Rattle.leb.proofs.Powers.{pow-seven_more, pow_at_most, half_at_most}

pub shortest_unsigned-spells : (bits most n : ℕ) → bits ≤ 7 * most → 0 < most → n < 2 ^ bits → IsUnsigned bits (shortest_unsigned most n) n
unfolding shortest_unsigned
shortest_unsigned-spells bits zero n enough some fits = absurd (omega arith)
shortest_unsigned-spells bits (suc more) n enough some fits =
    elim (cases_lt n 128) [
      | inl small ↦ rw (lt-ltb n 128 small) (inl (small, fits, refl, refl))
      | inr large ↦
          let lt : 7 < bits = elim (cases_lt 7 bits) [ inl h ↦ h | inr h ↦ absurd (omega (arith, pow_at_most bits 7 h)) ] in
          let rest = shortest_unsigned-spells (bits - 7) more (n / 128) (omega arith) (omega arith) (omega (arith, pow-seven_more bits (bits - 7) (omega arith))) in
          rw (le-ltb n 128 large) (inr (omega arith, omega arith, lt, n / 128, omega arith, rest))
    ]

pub length-shortest_unsigned-le : (bits most n : ℕ) (other : List ℕ) → IsUnsigned bits other n → length (shortest_unsigned most n) ≤ length other
unfolding shortest_unsigned
length-shortest_unsigned-le bits zero n other h = omega arith
length-shortest_unsigned-le bits (suc more) n [] h = absurd h
length-shortest_unsigned-le bits (suc more) n (b ∷ bs) (inl h) =
    let small : n < 128 = omega (arith, h.0, h.3) in
    rw (lt-ltb n 128 small) (omega arith)
length-shortest_unsigned-le bits (suc more) n (b ∷ bs) (inr h) =
    elim (cases_lt n 128) [
      | inl small ↦ rw (lt-ltb n 128 small) (omega arith)
      | inr large ↦
          let high : n / 128 ≡ h.3 = omega (arith, h.0, h.1, h.4) in
          let rest = length-shortest_unsigned-le (bits - 7) more h.3 bs h.5 in
          rw (le-ltb n 128 large, high) (omega arith)
    ]

-- signed numbers
last_byte_spells : (bits : ℕ) (z : ℤ) → FitsBits bits z → fits_seven_bits z ≡ true → IsSigned bits (low_bits z ∷ []) z
last_byte_spells bits (pos n) fits small =
    let below = ltb-true n 64 small in
    inl (omega arith, omega (arith, ints, fits.high), refl, omega (arith, ints))
last_byte_spells bits (negsuc n) fits small =
    let below = ltb-true n 64 small in
    inr (inl (omega arith, omega arith, omega (arith, ints, fits.low), refl, omega (arith, ints)))

-- what fits seven bits is spelled in one byte
wide : (bits : ℕ) (z : ℤ) → FitsBits bits z → fits_seven_bits z ≡ false → 7 < bits
wide bits z fits large =
    elim (cases_lt 7 bits) [
      | inl h ↦ h
      | inr h ↦
          let half = half_at_most bits 7 h in
          let small = fits_seven_bits-within z (omega (arith, ints, fits.low)) (omega (arith, ints, fits.high)) in
          absurd cc
    ]

pub shortest_signed-spells : (bits most : ℕ) (z : ℤ) → bits ≤ 7 * most → 0 < most → FitsBits bits z → IsSigned bits (shortest_signed most z) z
unfolding shortest_signed
shortest_signed-spells bits zero z enough some fits = absurd (omega arith)
shortest_signed-spells bits (suc more) z enough some fits =
    elim (cases_Bool (fits_seven_bits z)) [
      | inl small ↦ rw small (last_byte_spells bits z fits small)
      | inr large ↦
          let lt = wide bits z fits large in
          let rest = shortest_signed-spells (bits - 7) more (high_bits z) (omega arith) (omega arith) (FitsBits-high_bits bits (bits - 7) z (omega arith) (omega arith) fits) in
          let byte = low_bits_below z in
          let is : z ≡ ((high_bits z *ℤ (pos 128)) +ℤ (pos (low_bits z + 128 - 128))) = omega (arith, ints, high_low_bits z) in
          rw large (inr (inr (omega arith, omega arith, lt, high_bits z, is, rest)))
    ]

pub length-shortest_signed-le : (bits most : ℕ) (z : ℤ) (other : List ℕ) → IsSigned bits other z → length (shortest_signed most z) ≤ length other
unfolding shortest_signed
length-shortest_signed-le bits zero z other h = omega arith
length-shortest_signed-le bits (suc more) z [] h = absurd h
length-shortest_signed-le bits (suc more) z (b ∷ bs) (inl h) =
    let small = fits_seven_bits-within z (omega (arith, ints, h.0, h.3)) (omega (arith, ints, h.0, h.3)) in
    rw small (omega arith)
length-shortest_signed-le bits (suc more) z (b ∷ bs) (inr (inl h)) =
    let small = fits_seven_bits-within z (omega (arith, ints, h.0, h.1, h.4)) (omega (arith, ints, h.0, h.1, h.4)) in
    rw small (omega arith)
length-shortest_signed-le bits (suc more) z (b ∷ bs) (inr (inr h)) =
    elim (cases_Bool (fits_seven_bits z)) [
      | inl small ↦ rw small (omega arith)
      | inr large ↦
          let high = high_bits_is z h.3 (b - 128) (omega (arith, h.1)) h.4 in
          let rest = length-shortest_signed-le (bits - 7) more h.3 bs h.5 in
          rw (large, high) (omega arith)
    ]
