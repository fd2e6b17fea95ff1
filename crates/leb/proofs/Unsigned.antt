-- What is read is spelled so, and what is spelled so is read: unsigned numbers.
use Rattle.std.proofs.Common.{◌≡◌, ℕ, ◌+◌, ◌-◌, ◌*◌, ◌^◌, ◌<◌, ◌≤◌, inl, inr, ltb, leb, List, [], ◌∷◌, ◌++◌, Result, Ok, Err, refl, sym, ap, subst, arith}
use Rattle.std.proofs.lemmas.Bool.{ltb-false, le-ltb, ltb-true, lt-ltb, leb-false, le-leb, lt-leb}
use Rattle.leb.specs.declared.fault.LebFault.{LebFault}
use Rattle.leb.specs.declared.fault.LebFault.TheVariants.{TooLong, UnusedBits}
use Rattle.leb.specs.inside.Bytes.{IsBytes}
use Rattle.leb.specs.Spelling.{IsUnsigned}
use Rattle.leb.specs.inside.Reading.{unsigned_at, with_low}
use Rattle.leb.proofs.Faults.{ReadsOn}
use Rattle.leb.proofs.Places.{chosen, ok_is, never, IsBytes-tail, Takes}
use Rattle.leb.proofs.Powers.{below_seven_more}

with_low_ok : (b : ℕ) (r : Result (ℕ × List ℕ) LebFault) (x : ℕ × List ℕ) → with_low b r ≡ Ok x → (y : ℕ × List ℕ) × (r ≡ Ok y) × (x ≡ (128 * y.0 + (b - 128), y.1))
with_low_ok b (Ok y) x e = (y, refl, cc)
with_low_ok b (Err f) x e = absurd cc

Takes-more : (bits b : ℕ) (bs : List ℕ) (y : ℕ × List ℕ) → 128 ≤ b → b < 256 → 7 < bits → Takes (IsUnsigned (bits - 7)) bs y → Takes (IsUnsigned bits) (b ∷ bs) (128 * y.0 + (b - 128), y.1)
Takes-more bits b bs y high byte lt t = (b ∷ t.0, inr (high, byte, lt, y.0, refl, t.1), ap (λ (r : List ℕ). b ∷ r) t.2)

pub unsigned_takes : (bits : ℕ) (bytes : List ℕ) (x : ℕ × List ℕ) → IsBytes bytes → unsigned_at bits bytes ≡ Ok x → (front : List ℕ) × IsUnsigned bits front x.0 × (bytes ≡ front ++ x.1)
unsigned_takes bits [] x fits e = absurd cc
unsigned_takes bits (b ∷ bs) x fits e =
    elim (chosen (ltb b 128) _ _ (Ok x) e) [
      | inl h ↦ elim (chosen (ltb b (2 ^ bits)) (Ok (b, bs)) (Err UnusedBits) (Ok x) h.1) [
        | inl k ↦ subst (Takes (IsUnsigned bits) (b ∷ bs)) (ok_is (b, bs) x k.1) (b ∷ [], inl (ltb-true _ _ h.0, ltb-true _ _ k.0, refl, refl), refl)
        | inr k ↦ never UnusedBits x k.1
      ]
      | inr h ↦ elim (chosen (leb bits 7) (Err TooLong) (with_low b (unsigned_at (bits - 7) bs)) (Ok x) h.1) [
        | inl k ↦ never TooLong x k.1
        | inr k ↦
            let w = with_low_ok b (unsigned_at (bits - 7) bs) x k.1 in
            let rest = unsigned_takes (bits - 7) bs w.0 (IsBytes-tail b bs fits) w.1 in
            subst (Takes (IsUnsigned bits) (b ∷ bs)) (sym w.2) (Takes-more bits b bs w.0 (ltb-false _ _ h.0) (fits 0) (leb-false _ _ k.0) rest)
      ]
    ]

pub unsigned_again : (bits : ℕ) (front : List ℕ) (n : ℕ) (rest : List ℕ) → IsUnsigned bits front n → unsigned_at bits (front ++ rest) ≡ Ok (n, rest)
unsigned_again bits [] n rest h = absurd h
unsigned_again bits (b ∷ bs) n rest (inl h) =
    rw (lt-ltb _ _ h.0, lt-ltb _ _ h.1) (let e : bs ≡ [] = h.2 in let f : n ≡ b = h.3 in rw (e, f) refl)
unsigned_again bits (b ∷ bs) n rest (inr h) =
    rw (le-ltb _ _ h.0, lt-leb _ _ h.2, unsigned_again (bits - 7) bs h.3 rest h.5) (let f : n ≡ 128 * h.3 + (b - 128) = h.4 in rw f refl)

pub unsigned_below : (bits : ℕ) (front : List ℕ) (n : ℕ) → IsUnsigned bits front n → n < 2 ^ bits
unsigned_below bits [] n h = absurd h
unsigned_below bits (b ∷ bs) n (inl h) = let e : n ≡ b = h.3 in rw e h.1
unsigned_below bits (b ∷ bs) n (inr h) =
    let e : n ≡ 128 * h.3 + (b - 128) = h.4 in
    rw e (below_seven_more bits h.3 (b - 128) h.2 (unsigned_below (bits - 7) bs h.3 h.5) (let byte : b < 256 = h.1 in omega arith))

pub unsigned_nonempty : (bits n : ℕ) → IsUnsigned bits [] n → ⊥
unsigned_nonempty bits n h = h

-- which fault it is
with_low-err : (b : ℕ) (r : Result (ℕ × List ℕ) LebFault) (e : LebFault) → with_low b r ≡ Err e → r ≡ Err e
with_low-err b (Ok x) e h = absurd cc
with_low-err b (Err f) e h = let same : f ≡ e = cc in rw same refl

last_fault : (bits b : ℕ) (bs : List ℕ) (e : LebFault) → b < 128 → unsigned_at bits (b ∷ bs) ≡ Err e → e ≡ UnusedBits
last_fault bits b bs e small h =
    let chain = rw (lt-ltb b 128 small) at h in
    elim (chosen (ltb b (2 ^ bits)) (Ok (b, bs)) (Err UnusedBits) (Err e) chain) [
      | inl k ↦ absurd (let z = k.1 in cc)
      | inr k ↦ let z = k.1 in cc
    ]

pub unsigned_reads_on : ReadsOn unsigned_at
unsigned_reads_on = record {
  nothing = λ bits. refl;
  last = last_fault;
  long = λ bits b bs large le. rw (le-ltb b 128 large, le-leb bits 7 le) refl;
  fault_after = λ bits b bs e large lt h. with_low-err b (unsigned_at (bits - 7) bs) e (rw (le-ltb b 128 large, lt-leb bits 7 lt) at h);
  fault_from = λ bits b bs e large lt h. rw (le-ltb b 128 large, lt-leb bits 7 lt, h) refl;
}
