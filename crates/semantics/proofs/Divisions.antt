-- The signed quotient of operands that don't trap fits their type.
use Rattle.std.proofs.Common.{ℕ, zero, suc, ◌<◌, ◌-◌, ◌/◌, ◌^◌, ◌≡◌, ◌==◌, ◌&&◌, ◌||◌, false, refl, ℤ, pos, negsuc, Fits, to_z, of_z, arith}
use Rattle.std.proofs.lemmas.Bool.Decides.{nat_tests}
use Rattle.std.proofs.Math.Facts.{of_z-to_z, to_z-of_z, sfits_to_z}
use Rattle.std.proofs.Math.IntN.{neg_ℤ}
use Rattle.std.proofs.Math.Nat.{div-le_self, div-lt_self, div-one}
use Rattle.std.specs.Int.Signed.{mag, quot_z}
use mir.Syntax.{Width}
use mir.Val.{SFits, bits, hbits}
use mir.ValLaws.{pow-bits}

mag_negated : (n : ℕ) → mag (neg_ℤ (pos n)) ≡ n - 1
mag_negated zero = refl
mag_negated (suc n) = omega arith

quotient_fits : (w : Width) (x y : ℤ) → SFits w x → (of_z w y ≡ 2 ^ bits w - 1 → of_z w x ≡ 2 ^ hbits w → ⊥) → SFits w (quot_z x y)
quotient_fits w (pos a) (pos b) fits stands = record { sfits = omega (arith, fits.sfits, div-le_self a b) }
quotient_fits w (pos a) (negsuc b) fits stands = record { sfits = omega (arith, fits.sfits, div-le_self a (suc b), mag_negated (a / suc b)) }
quotient_fits w (negsuc a) (pos b) fits stands = record { sfits = omega (arith, fits.sfits, div-le_self (suc a) b, mag_negated (suc a / b)) }
quotient_fits w (negsuc a) (negsuc zero) fits stands =
    let not_least = stands refl in
    record { sfits = omega (arith, fits.sfits, div-one (suc a), pow-bits w) }
quotient_fits w (negsuc a) (negsuc (suc b)) fits stands =
    record { sfits = omega (arith, fits.sfits, div-lt_self {n = suc a} {k = suc (suc b)} (omega arith) (omega arith)) }

-- the divisor is not 0, and not -1 where the dividend is the least number
pub quotient_stands : (w : Width) (x y : ℕ) → Fits w x → Fits w y
    → (y == 0 || (x == 2 ^ hbits w && y == 2 ^ bits w - 1)) ≡ false
    → (0 < of_z w (to_z w y)) × SFits w (quot_z (to_z w (of_z w (to_z w x))) (to_z w (of_z w (to_z w y))))
quotient_stands w x y fx fy stands =
    let sx = sfits_to_z fx in
    let sy = sfits_to_z fy in
    let positive : 0 < y = grind (arith, nat_tests, stands) in
    let fits = quotient_fits w (to_z w x) (to_z w y) sx (simp (of_z-to_z fx, of_z-to_z fy) (λ p q. grind (arith, nat_tests, stands, p, q))) in
    (simp (of_z-to_z fy) positive, simp (to_z-of_z sx, to_z-of_z sy) fits)
