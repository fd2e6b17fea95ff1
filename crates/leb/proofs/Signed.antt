-- What is read is spelled so, and what is spelled so is read: signed numbers.
use Rattle.std.proofs.Common.{◌≡◌, ℕ, ℤ, pos, ◌+ℤ◌, ◌*ℤ◌, ◌-ℤ◌, ◌+◌, ◌-◌, ◌^◌, ◌<◌, ◌≤◌, inl, inr, Bool, true, false, cond, ltb, leb, List, [], ◌∷◌, ◌++◌, length, get_or, drop, Result, Ok, Err, refl, sym, ap, subst, ◌∙◌, arith}
use Rattle.std.proofs.lemmas.Bool.{ltb-false, le-ltb, ltb-true, lt-ltb, leb-true, leb-false, le-leb, lt-leb, cases_lt}
use Rattle.std.proofs.lemmas.Int.{ints}
use Rattle.std.proofs.lemmas.List.{drop_more}
use Rattle.leb.specs.declared.fault.LebFault.{LebFault}
use Rattle.leb.specs.declared.fault.LebFault.TheVariants.{Truncated, TooLong, UnusedBits}
use Rattle.leb.specs.inside.Bytes.{IsBytes}
use Rattle.leb.specs.Spelling.{IsSigned, FitsBits}
use Rattle.leb.specs.inside.Reading.{signed_at, with_low_signed}
use Rattle.leb.proofs.Faults.{ReadsOn}
use Rattle.leb.proofs.Places.{chosen, ok_is, never, IsBytes-tail, Takes}
use Rattle.leb.proofs.Powers.{half-seven_more}

with_low_ok : (b : ℕ) (r : Result (ℤ × List ℕ) LebFault) (x : ℤ × List ℕ) → with_low_signed b r ≡ Ok x → (y : ℤ × List ℕ) × (r ≡ Ok y) × (x ≡ ((y.0 *ℤ (pos 128)) +ℤ (pos (b - 128)), y.1))
with_low_ok b (Ok y) x e = (y, refl, cc)
with_low_ok b (Err f) x e = absurd cc

Takes-more : (bits b : ℕ) (bs : List ℕ) (y : ℤ × List ℕ) → 128 ≤ b → b < 256 → 7 < bits → Takes (IsSigned (bits - 7)) bs y → Takes (IsSigned bits) (b ∷ bs) ((y.0 *ℤ (pos 128)) +ℤ (pos (b - 128)), y.1)
Takes-more bits b bs y high byte lt t = (b ∷ t.0, inr (inr (high, byte, lt, y.0, refl, t.1)), ap (λ (r : List ℕ). b ∷ r) t.2)

pub signed_takes : (bits : ℕ) (bytes : List ℕ) (x : ℤ × List ℕ) → IsBytes bytes → signed_at bits bytes ≡ Ok x → (front : List ℕ) × IsSigned bits front x.0 × (bytes ≡ front ++ x.1)
signed_takes bits [] x fits e = never Truncated x e
signed_takes bits (b ∷ bs) x fits e =
    elim (chosen (ltb b 64) _ _ (Ok x) e) [
      | inl h ↦ elim (chosen (ltb b (2 ^ (bits - 1))) (Ok (pos b, bs)) (Err UnusedBits) (Ok x) h.1) [
        | inl k ↦ subst (Takes (IsSigned bits) (b ∷ bs)) (ok_is (pos b, bs) x k.1) (b ∷ [], inl (ltb-true _ _ h.0, ltb-true _ _ k.0, refl, refl), refl)
        | inr k ↦ never UnusedBits x k.1
      ]
      | inr g ↦ elim (chosen (ltb b 128) _ _ (Ok x) g.1) [
        | inl h ↦ elim (chosen (leb 128 (b + 2 ^ (bits - 1))) (Ok ((pos b) -ℤ (pos 128), bs)) (Err UnusedBits) (Ok x) h.1) [
          | inl k ↦ subst (Takes (IsSigned bits) (b ∷ bs)) (ok_is ((pos b) -ℤ (pos 128), bs) x k.1) (b ∷ [], inr (inl (ltb-false _ _ g.0, ltb-true _ _ h.0, leb-true _ _ k.0, refl, refl)), refl)
          | inr k ↦ never UnusedBits x k.1
        ]
        | inr h ↦ elim (chosen (leb bits 7) (Err TooLong) (with_low_signed b (signed_at (bits - 7) bs)) (Ok x) h.1) [
          | inl k ↦ never TooLong x k.1
          | inr k ↦
              let w = with_low_ok b (signed_at (bits - 7) bs) x k.1 in
              let rest = signed_takes (bits - 7) bs w.0 (IsBytes-tail b bs fits) w.1 in
              subst (Takes (IsSigned bits) (b ∷ bs)) (sym w.2) (Takes-more bits b bs w.0 (ltb-false _ _ h.0) (fits 0) (leb-false _ _ k.0) rest)
        ]
      ]
    ]

-- the tests of a last byte that stands for a number below 0
middle : {A : Type 0} (p q r : Bool) (a m u l : A) → p ≡ false → q ≡ true → r ≡ true → cond p a (cond q (cond r m u) l) ≡ m
middle p q r a m u l e f g = rw (e, f, g) refl

pub signed_again : (bits : ℕ) (front : List ℕ) (z : ℤ) (rest : List ℕ) → IsSigned bits front z → signed_at bits (front ++ rest) ≡ Ok (z, rest)
signed_again bits [] z rest h = absurd h
signed_again bits (b ∷ bs) z rest (inl h) =
    rw (lt-ltb _ _ h.0, lt-ltb _ _ h.1) (let e : bs ≡ [] = h.2 in let f : z ≡ pos b = h.3 in rw (e, f) refl)
signed_again bits (b ∷ bs) z rest (inr (inl h)) =
    middle (ltb b 64) (ltb b 128) (leb 128 (b + 2 ^ (bits - 1))) _ (Ok ((pos b) -ℤ (pos 128), bs ++ rest)) _ _ (le-ltb _ _ h.0) (lt-ltb _ _ h.1) (le-leb _ _ h.2)
    ∙ (let e : bs ≡ [] = h.3 in let f : z ≡ ((pos b) -ℤ (pos 128)) = h.4 in rw (e, f) refl)
signed_again bits (b ∷ bs) z rest (inr (inr h)) =
    let not_64 : 64 ≤ b = omega (arith, h.0) in
    rw (le-ltb _ _ not_64, le-ltb _ _ h.0, lt-leb _ _ h.2, signed_again (bits - 7) bs h.3 rest h.5) (let f : z ≡ ((h.3 *ℤ (pos 128)) +ℤ (pos (b - 128))) = h.4 in rw f refl)

-- seven bits below a number in the range
pub FitsBits-more : (bits low : ℕ) (high : ℤ) → 7 < bits → FitsBits (bits - 7) high → low < 128 → FitsBits bits ((high *ℤ (pos 128)) +ℤ (pos low))
FitsBits-more bits low high lt fits small =
    let half = half-seven_more bits (bits - 7) (omega arith) (omega arith) in
    record { low = omega (arith, ints, half, fits.low); high = omega (arith, ints, half, fits.high) }

pub signed_fits : (bits : ℕ) (front : List ℕ) (z : ℤ) → IsSigned bits front z → FitsBits bits z
signed_fits bits [] z h = absurd h
signed_fits bits (b ∷ bs) z (inl h) =
    let e : z ≡ pos b = h.3 in
    record { low = omega (arith, ints, e); high = omega (arith, ints, e, h.1) }
signed_fits bits (b ∷ bs) z (inr (inl h)) =
    let e : z ≡ ((pos b) -ℤ (pos 128)) = h.4 in
    record { low = omega (arith, ints, e, h.2); high = omega (arith, ints, e, h.1) }
signed_fits bits (b ∷ bs) z (inr (inr h)) =
    let e : z ≡ ((h.3 *ℤ (pos 128)) +ℤ (pos (b - 128))) = h.4 in
    rw e (FitsBits-more bits (b - 128) h.3 h.2 (signed_fits (bits - 7) bs h.3 h.5) (omega (arith, h.1)))

pub signed_nonempty : (bits : ℕ) (z : ℤ) → IsSigned bits [] z → ⊥
signed_nonempty bits z h = h

-- reading at a place: a byte below 64, one from 64 to 127, and one with more after it
pub signed_at-low : (bits : ℕ) (bytes : List ℕ) (at : ℕ) (z : ℤ) → at < length bytes → get_or bytes at 0 < 64 → get_or bytes at 0 < 2 ^ (bits - 1)
    → z ≡ pos (get_or bytes at 0) → signed_at bits (drop at bytes) ≡ Ok (z, drop (at + 1) bytes)
signed_at-low bits bytes at z inside low fits is = rw (drop_more bytes at 0 inside, lt-ltb _ _ low, lt-ltb _ _ fits, is) refl

pub signed_at-low_unused : (bits : ℕ) (bytes : List ℕ) (at : ℕ) → at < length bytes → get_or bytes at 0 < 64 → 2 ^ (bits - 1) ≤ get_or bytes at 0
    → signed_at bits (drop at bytes) ≡ Err UnusedBits
signed_at-low_unused bits bytes at inside low unused = rw (drop_more bytes at 0 inside, lt-ltb _ _ low, le-ltb _ _ unused) refl

pub signed_at-high : (bits : ℕ) (bytes : List ℕ) (at : ℕ) (z : ℤ) → at < length bytes → 64 ≤ get_or bytes at 0 → get_or bytes at 0 < 128
    → 128 ≤ get_or bytes at 0 + 2 ^ (bits - 1) → z ≡ ((pos (get_or bytes at 0)) -ℤ (pos 128)) → signed_at bits (drop at bytes) ≡ Ok (z, drop (at + 1) bytes)
signed_at-high bits bytes at z inside high last fits is =
    rw (is, drop_more bytes at 0 inside, le-ltb _ _ high, lt-ltb _ _ last, le-leb _ _ fits) refl

pub signed_at-high_unused : (bits : ℕ) (bytes : List ℕ) (at : ℕ) → at < length bytes → 64 ≤ get_or bytes at 0 → get_or bytes at 0 < 128
    → get_or bytes at 0 + 2 ^ (bits - 1) < 128 → signed_at bits (drop at bytes) ≡ Err UnusedBits
signed_at-high_unused bits bytes at inside high last unused =
    rw (drop_more bytes at 0 inside, le-ltb _ _ high, lt-ltb _ _ last, lt-leb _ _ unused) refl

pub signed_at-too_long : (bits : ℕ) (bytes : List ℕ) (at : ℕ) → at < length bytes → 128 ≤ get_or bytes at 0 → bits ≤ 7
    → signed_at bits (drop at bytes) ≡ Err TooLong
signed_at-too_long bits bytes at inside more few =
    let not_64 : 64 ≤ get_or bytes at 0 = omega arith in
    rw (drop_more bytes at 0 inside, le-ltb _ _ not_64, le-ltb _ _ more, le-leb _ _ few) refl

pub signed_at-more : (bits : ℕ) (bytes : List ℕ) (at : ℕ) (high z : ℤ) (rest : List ℕ) → at < length bytes → 128 ≤ get_or bytes at 0 → 7 < bits
    → signed_at (bits - 7) (drop (at + 1) bytes) ≡ Ok (high, rest) → z ≡ ((high *ℤ (pos 128)) +ℤ (pos (get_or bytes at 0 - 128)))
    → signed_at bits (drop at bytes) ≡ Ok (z, rest)
signed_at-more bits bytes at high z rest inside more lt read is =
    let not_64 : 64 ≤ get_or bytes at 0 = omega arith in
    rw (drop_more bytes at 0 inside, le-ltb _ _ not_64, le-ltb _ _ more, lt-leb _ _ lt, read, is) refl

-- which fault it is
with_low-err : (b : ℕ) (r : Result (ℤ × List ℕ) LebFault) (e : LebFault) → with_low_signed b r ≡ Err e → r ≡ Err e
with_low-err b (Ok x) e h = absurd cc
with_low-err b (Err f) e h = let same : f ≡ e = cc in rw same refl

guarded_fault : (b : Bool) (x : ℤ × List ℕ) (e : LebFault) → cond b (Ok x) (Err UnusedBits) ≡ Err e → e ≡ UnusedBits
guarded_fault true x e h = absurd cc
guarded_fault false x e h = cc

pub second : {A : Type 0} (p q : Bool) (a m l : A) → p ≡ false → q ≡ true → cond p a (cond q m l) ≡ m
second p q a m l e f = rw (e, f) refl

last_fault : (bits b : ℕ) (bs : List ℕ) (e : LebFault) → b < 128 → signed_at bits (b ∷ bs) ≡ Err e → e ≡ UnusedBits
last_fault bits b bs e small h =
    elim (cases_lt b 64) [
      | inl low ↦ guarded_fault (ltb b (2 ^ (bits - 1))) (pos b, bs) e (rw (lt-ltb b 64 low) at h)
      | inr high ↦ guarded_fault (leb 128 (b + 2 ^ (bits - 1))) ((pos b) -ℤ (pos 128), bs) e (sym (second _ _ _ _ _ (le-ltb b 64 high) (lt-ltb b 128 small)) ∙ h)
    ]

-- the tests of a byte that another follows
continued : {A : Type 0} (bits b : ℕ) (l m u n : A) → 128 ≤ b → cond (ltb b 64) l (cond (ltb b 128) m (cond (leb bits 7) u n)) ≡ cond (leb bits 7) u n
continued bits b l m u n large =
    let not_64 : 64 ≤ b = omega arith in
    rw (le-ltb b 64 not_64, le-ltb b 128 large) refl

pub signed_reads_on : ReadsOn signed_at
signed_reads_on = record {
  nothing = λ bits. refl;
  last = last_fault;
  long = λ bits b bs large le. continued bits b _ _ _ _ large ∙ rw (le-leb bits 7 le) refl;
  fault_after = λ bits b bs e large lt h. with_low-err b (signed_at (bits - 7) bs) e (rw (lt-leb bits 7 lt) at (sym (continued bits b _ _ _ _ large) ∙ h));
  fault_from = λ bits b bs e large lt h. continued bits b _ _ _ _ large ∙ rw (lt-leb bits 7 lt, h) refl;
}
