-- The bits of a number's last byte that its width has no room for.
use Rattle.std.proofs.Common.{◌≡◌, ◌↔◌, ℕ, ◌+◌, ◌-◌, ◌/◌, ◌%◌, ◌^◌, ◌<◌, ◌≤◌, ◌⊎◌, inl, inr, List, ◌∷◌, Err, refl, sym, ◌∙◌, subst, arith}
use Rattle.std.proofs.lemmas.Bool.{cases_eq, cases_lt, le-leb, le-ltb, lt-leb, lt-ltb}
use Rattle.leb.specs.declared.fault.LebFault.TheVariants.{UnusedBits}
use Rattle.leb.specs.Faults.{AreSigns, AreZeros, bit_of}
use Rattle.leb.specs.inside.Reading.{signed_at, unsigned_at}
use Rattle.leb.proofs.Faults.{EndsWithin}
use Rattle.leb.proofs.Powers.{half_at_most, pow_at_most}
use Rattle.leb.proofs.Signed.{second}

-- the last byte fits into so many bits
abbrev pub FitsUnsigned : ℕ → ℕ → Type 0
FitsUnsigned bits b = b < 2 ^ bits

abbrev pub FitsSigned : ℕ → ℕ → Type 0
FitsSigned bits b = ((b < 64) × (b < 2 ^ (bits - 1))) ⊎ ((64 ≤ b) × (128 ≤ b + 2 ^ (bits - 1)))

unsigned_fitting : (bits b : ℕ) (bs : List ℕ) → b < 128 → FitsUnsigned bits b → unsigned_at bits (b ∷ bs) ≡ Err UnusedBits → ⊥
unsigned_fitting bits b bs small fits e = let read = rw (lt-ltb b 128 small, lt-ltb b (2 ^ bits) fits) at e in absurd cc

unsigned_unfitting : (bits b : ℕ) (bs : List ℕ) → b < 128 → (FitsUnsigned bits b → ⊥) → unsigned_at bits (b ∷ bs) ≡ Err UnusedBits
unsigned_unfitting bits b bs small unfit = elim (cases_lt b (2 ^ bits)) [
  | inl fits ↦ absurd (unfit fits)
  | inr past ↦ rw (lt-ltb b 128 small, le-ltb b (2 ^ bits) past) refl
]

unsigned_room : (bits b : ℕ) → b < 128 → 7 < bits → FitsUnsigned bits b
unsigned_room bits b small lt = let more = pow_at_most 7 bits (omega arith) in omega arith

pub unsigned_ends : EndsWithin FitsUnsigned unsigned_at
unsigned_ends = record { fitting = unsigned_fitting; unfitting = unsigned_unfitting; room = unsigned_room }

signed_fitting : (bits b : ℕ) (bs : List ℕ) → b < 128 → FitsSigned bits b → signed_at bits (b ∷ bs) ≡ Err UnusedBits → ⊥
signed_fitting bits b bs small (inl fits) e = let read = rw (lt-ltb b 64 fits.0, lt-ltb b (2 ^ (bits - 1)) fits.1) at e in absurd cc
signed_fitting bits b bs small (inr fits) e =
    let read = sym (second _ _ _ _ _ (le-ltb b 64 fits.0) (lt-ltb b 128 small)) ∙ e in
    let taken = rw (le-leb 128 (b + 2 ^ (bits - 1)) fits.1) at read in
    absurd cc

signed_unfitting : (bits b : ℕ) (bs : List ℕ) → b < 128 → (FitsSigned bits b → ⊥) → signed_at bits (b ∷ bs) ≡ Err UnusedBits
signed_unfitting bits b bs small unfit = elim (cases_lt b 64) [
  | inl low ↦ elim (cases_lt b (2 ^ (bits - 1))) [
    | inl fits ↦ absurd (unfit (inl (low, fits)))
    | inr past ↦ rw (lt-ltb b 64 low, le-ltb b (2 ^ (bits - 1)) past) refl
  ]
  | inr high ↦ elim (cases_lt (b + 2 ^ (bits - 1)) 128) [
    | inl below ↦ second _ _ _ _ _ (le-ltb b 64 high) (lt-ltb b 128 small) ∙ rw (lt-leb 128 (b + 2 ^ (bits - 1)) below) refl
    | inr fits ↦ absurd (unfit (inr (high, fits)))
  ]
]

signed_room : (bits b : ℕ) → b < 128 → 7 < bits → FitsSigned bits b
signed_room bits b small lt =
    let more : 128 ≤ 2 ^ (bits - 1) = half_at_most 8 bits (omega arith) in
    elim (cases_lt b 64) [ inl low ↦ inl (low, omega arith) | inr high ↦ inr (high, omega arith) ]

pub signed_ends : EndsWithin FitsSigned signed_at
signed_ends = record { fitting = signed_fitting; unfitting = signed_unfitting; room = signed_room }

-- ---- the bits of the last byte, one by one

from_four : (P : ℕ → Type 0) → P 4 → P 5 → P 6 → (i : ℕ) → 4 ≤ i → i < 7 → P i
from_four P p4 p5 p6 i low high = elim (cases_eq i 4) [
  | inl e ↦ subst P (sym e) p4
  | inr n4 ↦ elim (cases_eq i 5) [
    | inl e ↦ subst P (sym e) p5
    | inr n5 ↦ let e : i ≡ 6 = omega arith in subst P (sym e) p6
  ]
]

from_one : (P : ℕ → Type 0) → P 1 → P 2 → P 3 → ((i : ℕ) → 4 ≤ i → i < 7 → P i) → (i : ℕ) → 1 ≤ i → i < 7 → P i
from_one P p1 p2 p3 others i low high = elim (cases_eq i 1) [
  | inl e ↦ subst P (sym e) p1
  | inr n1 ↦ elim (cases_eq i 2) [
    | inl e ↦ subst P (sym e) p2
    | inr n2 ↦ elim (cases_eq i 3) [
      | inl e ↦ subst P (sym e) p3
      | inr n3 ↦ others i (omega arith) high
    ]
  ]
]

pub zeros_of_four : (b : ℕ) → b < 128 → FitsUnsigned 4 b ↔ AreZeros 4 b
zeros_of_four b small = (
  λ fits. from_four (λ (i : ℕ). bit_of b i ≡ 0) (omega arith) (omega arith) (omega arith),
  λ zeros.
      let z4 : b / 16 % 2 ≡ 0 = zeros 4 (omega arith) (omega arith) in
      let z5 : b / 32 % 2 ≡ 0 = zeros 5 (omega arith) (omega arith) in
      let z6 : b / 64 % 2 ≡ 0 = zeros 6 (omega arith) (omega arith) in
      omega arith,
)

signs_from_four : (b : ℕ) → b < 128 → FitsSigned 4 b → AreSigns 4 b
signs_from_four b small (inl fits) = from_four (λ (i : ℕ). bit_of b i ≡ bit_of b 3) (omega (arith, fits.1)) (omega (arith, fits.1)) (omega (arith, fits.1))
signs_from_four b small (inr fits) = from_four (λ (i : ℕ). bit_of b i ≡ bit_of b 3) (omega (arith, fits.1)) (omega (arith, fits.1)) (omega (arith, fits.1))

pub signs_of_four : (b : ℕ) → b < 128 → FitsSigned 4 b ↔ AreSigns 4 b
signs_of_four b small = (
  signs_from_four b small,
  λ signs.
      let s4 : b / 16 % 2 ≡ b / 8 % 2 = signs 4 (omega arith) (omega arith) in
      let s5 : b / 32 % 2 ≡ b / 8 % 2 = signs 5 (omega arith) (omega arith) in
      let s6 : b / 64 % 2 ≡ b / 8 % 2 = signs 6 (omega arith) (omega arith) in
      elim (cases_lt b 64) [ inl low ↦ inl (low, omega arith) | inr high ↦ inr (high, omega arith) ],
)

signs_from_one : (b : ℕ) → b < 128 → FitsSigned 1 b → AreSigns 1 b
signs_from_one b small (inl fits) =
    let is : b ≡ 0 = omega (arith, fits.1) in
    rw is (from_one (λ (i : ℕ). bit_of 0 i ≡ 0) refl refl refl (from_four (λ (i : ℕ). bit_of 0 i ≡ 0) refl refl refl))
signs_from_one b small (inr fits) =
    let is : b ≡ 127 = omega (arith, fits.1) in
    rw is (from_one (λ (i : ℕ). bit_of 127 i ≡ 1) refl refl refl (from_four (λ (i : ℕ). bit_of 127 i ≡ 1) refl refl refl))

pub signs_of_one : (b : ℕ) → b < 128 → FitsSigned 1 b ↔ AreSigns 1 b
signs_of_one b small = (
  signs_from_one b small,
  λ signs.
      let s1 : b / 2 % 2 ≡ b / 1 % 2 = signs 1 (omega arith) (omega arith) in
      let s2 : b / 4 % 2 ≡ b / 1 % 2 = signs 2 (omega arith) (omega arith) in
      let s3 : b / 8 % 2 ≡ b / 1 % 2 = signs 3 (omega arith) (omega arith) in
      let s4 : b / 16 % 2 ≡ b / 1 % 2 = signs 4 (omega arith) (omega arith) in
      let s5 : b / 32 % 2 ≡ b / 1 % 2 = signs 5 (omega arith) (omega arith) in
      let s6 : b / 64 % 2 ≡ b / 1 % 2 = signs 6 (omega arith) (omega arith) in
      elim (cases_lt b 64) [ inl low ↦ inl (low, omega arith) | inr high ↦ inr (high, omega arith) ],
)
