-- How a number is written a byte at a time: the shortest spelling, one byte on.
use Rattle.std.proofs.Common.{◌≡◌, ℕ, ℤ, zero, suc, ◌+◌, ◌*◌, ◌/◌, ◌%◌, ◌^◌, ◌<◌, ◌≤◌, true, false, List, [], ◌∷◌, ◌++◌, refl, sym, ap, ◌∙◌, append_assoc, arith}
use Rattle.std.proofs.lemmas.Bool.{lt-ltb, le-ltb}
use Rattle.std.proofs.lemmas.Int.{ints}
use Rattle.leb.specs.Spelling.{FitsBits, fits_seven_bits, low_bits, high_bits, shortest_unsigned, shortest_signed}
use Rattle.leb.proofs.Bits.{fits_seven_bits-within, FitsBits-high_bits}
use Rattle.leb.proofs.Powers.{pow-seven_more}

-- The list has the first bytes of the whole, so many bytes are enough for the rest, and there is room for them.
pub record IsWritten {N : Type 0} (fits : ℕ → N → Type 0) (shortest : ℕ → N → List ℕ) (whole written : List ℕ) (length capacity : ℕ) (rest : N) : Type 0 where
  pub most : ℕ
  pub some : 0 < most
  pub enough : fits (7 * most) rest
  pub room : length + most ≤ capacity
  pub completes : written ++ shortest most rest ≡ whole

abbrev pub FitsUnsigned : ℕ → ℕ → Type 0
FitsUnsigned bits n = n < 2 ^ bits

-- one byte on
pub record Continues {N : Type 0} (fits : ℕ → N → Type 0) (shortest : ℕ → N → List ℕ) (most : ℕ) (byte : ℕ) (rest high : N) : Type 0 where
  pub fewer : ℕ
  pub some : 0 < fewer
  pub one_less : most ≡ suc fewer
  pub enough : fits (7 * fewer) high
  pub spells : shortest most rest ≡ byte ∷ shortest fewer high

pub IsWritten-more : {N : Type 0} (fits : ℕ → N → Type 0) (shortest : ℕ → N → List ℕ) (whole written written' : List ℕ) (len len' capacity capacity' byte : ℕ) (rest high : N)
    → (w : IsWritten fits shortest whole written len capacity rest) → Continues fits shortest w.most byte rest high
    → written' ≡ written ++ byte ∷ [] → len' ≡ len + 1 → capacity ≤ capacity' → IsWritten fits shortest whole written' len' capacity' high
IsWritten-more fits shortest whole written written' len len' capacity capacity' byte rest high w on is longer kept =
    record {
      most = on.fewer;
      some = on.some;
      enough = on.enough;
      room = omega (arith, w.room, on.one_less);
      completes = ap (λ (xs : List ℕ). xs ++ shortest on.fewer high) is ∙ append_assoc written (byte ∷ []) (shortest on.fewer high)
          ∙ ap (λ (xs : List ℕ). written ++ xs) (sym on.spells) ∙ w.completes;
    }

-- unsigned numbers
pub Continues-unsigned : (most n : ℕ) → 0 < most → n < 2 ^ (7 * most) → 128 ≤ n
    → Continues FitsUnsigned shortest_unsigned most (n % 128 + 128) n (n / 128)
unfolding shortest_unsigned
Continues-unsigned zero n some fits large = absurd (omega arith)
Continues-unsigned (suc zero) n some fits large = absurd (omega arith)
Continues-unsigned (suc (suc k)) n some fits large =
    record {
      fewer = suc k;
      some = omega arith;
      one_less = refl;
      enough = omega (arith, pow-seven_more (7 * suc (suc k)) (7 * suc k) (omega arith));
      spells = rw (le-ltb n 128 large) refl;
    }

pub shortest_unsigned-last : (most n : ℕ) → 0 < most → n < 128 → shortest_unsigned most n ≡ n ∷ []
unfolding shortest_unsigned
shortest_unsigned-last zero n some small = absurd (omega arith)
shortest_unsigned-last (suc more) n some small = rw (lt-ltb n 128 small) refl

-- signed numbers
pub Continues-signed : (most : ℕ) (z : ℤ) → 0 < most → FitsBits (7 * most) z → fits_seven_bits z ≡ false
    → Continues FitsBits shortest_signed most (low_bits z + 128) z (high_bits z)
unfolding shortest_signed
Continues-signed zero z some fits large = absurd (omega arith)
Continues-signed (suc zero) z some fits large = let small = fits_seven_bits-within z (omega (arith, ints, fits.low)) fits.high in absurd cc
Continues-signed (suc (suc k)) z some fits large =
    record {
      fewer = suc k;
      some = omega arith;
      one_less = refl;
      enough = FitsBits-high_bits (7 * suc (suc k)) (7 * suc k) z (omega arith) (omega arith) fits;
      spells = rw large refl;
    }

pub shortest_signed-last : (most : ℕ) (z : ℤ) → 0 < most → fits_seven_bits z ≡ true → shortest_signed most z ≡ low_bits z ∷ []
unfolding shortest_signed
shortest_signed-last zero z some small = absurd (omega arith)
shortest_signed-last (suc more) z some small = rw small refl
