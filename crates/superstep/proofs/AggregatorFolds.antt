-- How an aggregator combines numbers: the order makes no difference.
use Rattle.std.proofs.Common.{◌≡◌, ℕ, ℤ, pos, ◌+ℤ◌, zero, suc, ◌+◌, ◌-◌, ◌%◌, ◌^◌, ◌<◌, ◌≤◌, min, Bool, true, false, cond, ltb, bit_or, FitsSigned, ⊎_elim, refl, ap, sym, ◌∙◌, arith, nat_lt, get_or}
use Rattle.std.specs.Int.{w64, cast_signed, cast_unsigned, int_wrapping_add, int_min, int_max, int_bit_or, int_wrap}
use Rattle.std.specs.Int.Bits.{or_zero_r}
use Rattle.std.proofs.lemmas.Int.{ints, clamps, int_wrap_fits, to_z-of_z, wrapping_add_is}
use Rattle.std.proofs.lemmas.Nat.{or_comm, le_or_l}
use Rattle.std.proofs.lemmas.Nat.Bits.{bit_at_or, same_from_bits}
use Rattle.std.proofs.lemmas.Bool.{cases_lt}
use borrow.Author.Differences.{fits_in, read_fits}
use Rattle.superstep.specs.Folds.{combined}
use Rattle.verified.specs.Aggregators.{aggregator_starts}

-- ---- numbers of 64 bits, and their bits

-- the bits of a number, read and written again, are the same up to the greatest
read_back : (n : ℕ) → cast_unsigned w64 (cast_signed w64 n) ≡ min n (2 ^ 64 - 1)
read_back n = by (ltb n (2 ^ 63)) refl
  where
    by : (t : Bool) → ltb n (2 ^ 63) ≡ t → cast_unsigned w64 (cast_signed w64 n) ≡ min n (2 ^ 64 - 1)
    by true e = grind arith
    by false e = grind arith

pub read_fits_signed : (n : ℕ) → FitsSigned w64 (cast_signed w64 n)
read_fits_signed n = fits_in w64 (cast_signed w64 n) (omega (arith, read_fits w64 n))

-- bits from the greatest on are read as the greatest
read_capped : (n : ℕ) → cast_signed w64 n ≡ cast_signed w64 (min n (2 ^ 64 - 1))
read_capped n = sym (to_z-of_z w64 (cast_signed w64 n) (read_fits_signed n)) ∙ ap (cast_signed w64) (read_back n)

or_assoc : (a b c : ℕ) → bit_or (bit_or a b) c ≡ bit_or a (bit_or b c)
or_assoc a b c = same_from_bits _ _ (λ i. omega (arith, bit_at_or (bit_or a b) c i, bit_at_or a b i, bit_at_or a (bit_or b c) i, bit_at_or b c i))

-- ---- the four ways to combine

abbrev IsCommutative : (ℤ → ℤ → ℤ) → Type 0
IsCommutative f = (x y : ℤ) → f x y ≡ f y x

-- two numbers may be given in either order
abbrev TakesEitherFirst : (ℤ → ℤ → ℤ) → Type 0
TakesEitherFirst f = (x y z : ℤ) → f (f x y) z ≡ f (f x z) y

abbrev KeepsFit : (ℤ → ℤ → ℤ) → Type 0
KeepsFit f = (x y : ℤ) → FitsSigned w64 x → FitsSigned w64 y → FitsSigned w64 (f x y)

sum_comm : IsCommutative (int_wrapping_add w64)
sum_comm x y = let e : cast_unsigned w64 x + cast_unsigned w64 y ≡ cast_unsigned w64 y + cast_unsigned w64 x = omega arith in ap (λ n. cast_signed w64 (n % 2 ^ 64)) e

sum_inside : (x y z : ℤ) → int_wrapping_add w64 (int_wrapping_add w64 x y) z ≡ cast_signed w64 ((cast_unsigned w64 x + cast_unsigned w64 y + cast_unsigned w64 z) % 2 ^ 64)
sum_inside x y z =
    let a = cast_unsigned w64 x in
    let b = cast_unsigned w64 y in
    let c = cast_unsigned w64 z in
    let e : (cast_unsigned w64 (cast_signed w64 ((a + b) % 2 ^ 64)) + c) % 2 ^ 64 ≡ (a + b + c) % 2 ^ 64 = omega (arith, read_back ((a + b) % 2 ^ 64)) in
    ap (cast_signed w64) e

sum_turns : TakesEitherFirst (int_wrapping_add w64)
sum_turns x y z =
    let e : cast_unsigned w64 x + cast_unsigned w64 y + cast_unsigned w64 z ≡ cast_unsigned w64 x + cast_unsigned w64 z + cast_unsigned w64 y = omega arith in
    sum_inside x y z ∙ ap (λ n. cast_signed w64 (n % 2 ^ 64)) e ∙ sym (sum_inside x z y)

least_comm : IsCommutative int_min
least_comm x y = omega (arith, ints, clamps)

least_turns : TakesEitherFirst int_min
least_turns x y z = omega (arith, ints, clamps)

greatest_comm : IsCommutative int_max
greatest_comm x y = omega (arith, ints, clamps)

greatest_turns : TakesEitherFirst int_max
greatest_turns x y z = omega (arith, ints, clamps)

union_comm : IsCommutative (int_bit_or w64)
union_comm x y = ap (cast_signed w64) (or_comm (cast_unsigned w64 x) (cast_unsigned w64 y))

-- to read the bits of a first union as the greatest changes nothing of a second
capped_union : (n c : ℕ) → min (bit_or (min n (2 ^ 64 - 1)) c) (2 ^ 64 - 1) ≡ min (bit_or n c) (2 ^ 64 - 1)
capped_union n c =
    ⊎_elim
    (λ (small : n < 2 ^ 64). let e : min n (2 ^ 64 - 1) ≡ n = omega arith in ap (λ m. min (bit_or m c) (2 ^ 64 - 1)) e)
    (λ (large : 2 ^ 64 ≤ n). omega (arith, le_or_l (min n (2 ^ 64 - 1)) c, le_or_l n c))
    (cases_lt n (2 ^ 64))

union_inside : (x y z : ℤ) → int_bit_or w64 (int_bit_or w64 x y) z ≡ cast_signed w64 (bit_or (bit_or (cast_unsigned w64 x) (cast_unsigned w64 y)) (cast_unsigned w64 z))
union_inside x y z =
    let n = bit_or (cast_unsigned w64 x) (cast_unsigned w64 y) in
    let c = cast_unsigned w64 z in
    ap (λ m. cast_signed w64 (bit_or m c)) (read_back n)
    ∙ read_capped (bit_or (min n (2 ^ 64 - 1)) c)
    ∙ ap (cast_signed w64) (capped_union n c)
    ∙ sym (read_capped (bit_or n c))

or_turns : (a b c : ℕ) → bit_or (bit_or a b) c ≡ bit_or (bit_or a c) b
or_turns a b c = or_assoc a b c ∙ ap (bit_or a) (or_comm b c) ∙ sym (or_assoc a c b)

union_turns : TakesEitherFirst (int_bit_or w64)
union_turns x y z = union_inside x y z ∙ ap (cast_signed w64) (or_turns (cast_unsigned w64 x) (cast_unsigned w64 y) (cast_unsigned w64 z)) ∙ sym (union_inside x z y)

-- a number of 64 bits stays as it is with nothing added to it, and with no bits united with it
sum_start : (x : ℤ) → FitsSigned w64 x → int_wrapping_add w64 x (pos 0) ≡ x
sum_start x fits =
    let none : FitsSigned w64 (pos 0) = omega (arith, ints) in
    let e : x +ℤ pos 0 ≡ x = omega (arith, ints) in
    wrapping_add_is w64 x (pos 0) fits none ∙ ap (int_wrap w64) e ∙ int_wrap_fits w64 x fits

union_start : (x : ℤ) → FitsSigned w64 x → int_bit_or w64 x (pos 0) ≡ x
union_start x fits = ap (cast_signed w64) (or_zero_r (cast_unsigned w64 x)) ∙ to_z-of_z w64 x fits

-- what holds of the four ways holds of each aggregator's
each_way : (P : (ℤ → ℤ → ℤ) → Type 0) → P (int_wrapping_add w64) → P int_min → P int_max → P (int_bit_or w64) → (aggregator : ℕ) → P (combined aggregator)
each_way P sums least greatest unites aggregator = by (nat_lt aggregator 2) (nat_lt aggregator 4) (nat_lt aggregator 6)
  where
    by : (a b c : Bool) → P (λ old given. cond a (int_wrapping_add w64 old given) (cond b (int_min old given) (cond c (int_max old given) (int_bit_or w64 old given))))
    by true b c = sums
    by false true c = least
    by false false true = greatest
    by false false false = unites

-- ---- an aggregator

pub combined_comm : (aggregator : ℕ) (x y : ℤ) → combined aggregator x y ≡ combined aggregator y x
combined_comm = each_way IsCommutative sum_comm least_comm greatest_comm union_comm

pub combined_turns : (aggregator : ℕ) (x y z : ℤ) → combined aggregator (combined aggregator x y) z ≡ combined aggregator (combined aggregator x z) y
combined_turns = each_way TakesEitherFirst sum_turns least_turns greatest_turns union_turns

pub combined_assoc : (aggregator : ℕ) (x y z : ℤ) → combined aggregator (combined aggregator x y) z ≡ combined aggregator x (combined aggregator y z)
combined_assoc aggregator x y z =
    ap (λ t. combined aggregator t z) (combined_comm aggregator x y) ∙ combined_turns aggregator y x z ∙ combined_comm aggregator (combined aggregator y z) x

pub combined_fits : (aggregator : ℕ) (x y : ℤ) → FitsSigned w64 x → FitsSigned w64 y → FitsSigned w64 (combined aggregator x y)
combined_fits = each_way KeepsFit (λ x y f g. read_fits_signed _) (λ x y f g. omega (arith, ints, clamps)) (λ x y f g. omega (arith, ints, clamps)) (λ x y f g. read_fits_signed _)

-- a number of 64 bits, combined with what its aggregator starts with
pub combined_start : (aggregator : ℕ) (x : ℤ) → aggregator < 8 → FitsSigned w64 x → combined aggregator x (get_or aggregator_starts aggregator (pos 0)) ≡ x
combined_start zero x below fits = sum_start x fits
combined_start (suc zero) x below fits = sum_start x fits
combined_start (suc (suc zero)) x below fits = omega (arith, ints, clamps)
combined_start (suc (suc (suc zero))) x below fits = omega (arith, ints, clamps)
combined_start (suc (suc (suc (suc zero)))) x below fits = omega (arith, ints, clamps)
combined_start (suc (suc (suc (suc (suc zero))))) x below fits = omega (arith, ints, clamps)
combined_start (suc (suc (suc (suc (suc (suc zero)))))) x below fits = union_start x fits
combined_start (suc (suc (suc (suc (suc (suc (suc zero))))))) x below fits = union_start x fits
combined_start (suc (suc (suc (suc (suc (suc (suc (suc aggregator)))))))) x below fits = absurd (omega arith)
