-- The exponent of a power of 2, found by trying one after another.
use Rattle.std.proofs.Common.{◌≡◌, ℕ, suc, ◌+◌, ◌-◌, ◌*◌, ◌%◌, ◌<◌, ◌≤◌, ◌^◌, Some, None, refl, sym, ap, ◌∙◌, arith}
use Rattle.std.proofs.lemmas.Bool.{eq-eqb, ne_eqb}
use Rattle.std.proofs.Math.Nat.{mod-eq_of_lt}
use Rattle.std.proofs.Math.Pow.{pow-lt}
use Rattle.wat_syntax.specs.inside.ReadingCode.{exponent, exponent_from}

pub found_here : (e count n : ℕ) → 2 ^ e ≡ n → exponent_from e (suc count) n ≡ Some e
unfolding exponent_from
found_here e count n h = rw (eq-eqb (2 ^ e) n h) refl

pub not_here : (e count n : ℕ) → (2 ^ e ≡ n → ⊥) → exponent_from e (suc count) n ≡ exponent_from (e + 1) count n
unfolding exponent_from
not_here e count n h = rw (ne_eqb (2 ^ e) n h) refl

pub exponent_starts : (n : ℕ) → exponent_from 0 (32 - 0) n ≡ exponent n
unfolding exponent
exponent_starts n = refl

pub exponent_found : (e n m : ℕ) → e < 32 → m ≡ 2 ^ e → m ≡ n → exponent_from e (32 - e) n ≡ exponent n → Some e ≡ exponent n
exponent_found e n m lt p h so_far =
    let k : 32 - e ≡ suc (32 - (e + 1)) = omega arith in
    sym (found_here e (32 - (e + 1)) n (sym p ∙ h)) ∙ sym (ap (λ c. exponent_from e c n) k) ∙ so_far

pub exponent_goes_on : (e n m : ℕ) → e < 32 → m ≡ 2 ^ e → (m ≡ n → ⊥) → exponent_from e (32 - e) n ≡ exponent n → exponent_from (e + 1) (32 - (e + 1)) n ≡ exponent n
exponent_goes_on e n m lt p h so_far =
    let k : 32 - e ≡ suc (32 - (e + 1)) = omega arith in
    sym (not_here e (32 - (e + 1)) n (λ q. h (p ∙ q))) ∙ sym (ap (λ c. exponent_from e c n) k) ∙ so_far

pub exponent_missing : (e n : ℕ) → 32 ≤ e → exponent_from e (32 - e) n ≡ exponent n → None ≡ exponent n
unfolding exponent_from
exponent_missing e n le so_far =
    let k : 32 - e ≡ 0 = omega arith in
    sym (ap (λ c. exponent_from e c n) k) ∙ so_far

-- 1 shifted to the left, where it stays within 32 bits
pub shifted : (e : ℕ) → e < 32 → (1 * 2 ^ e) % 4294967296 ≡ 2 ^ e
shifted e lt =
    let small : 2 ^ e < 2 ^ 32 = pow-lt lt in
    let less : 1 * 2 ^ e < 4294967296 = omega arith in
    mod-eq_of_lt less ∙ omega arith
