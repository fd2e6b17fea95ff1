-- Alignments past every width.
use Rattle.std.proofs.Common.{◌≡◌, ℕ, ◌<◌, ◌≤◌, ◌^◌, false, sym, ◌∙◌, arith}
use Rattle.std.specs.Prelude.{nat_lt, nat_le}
use Rattle.std.proofs.Math.Pow.{pow_mono}
use Rattle.std.proofs.lemmas.Bool.Decides.{nat_tests}
use Rattle.validate.specs.inside.Steps.{is_aligned}

-- 2 ^ align is more than any number of 32 bits
pub past_widths : (align width : ℕ) → 32 ≤ align → width < 2 ^ 32 → nat_lt align 32 ≡ is_aligned align width
past_widths align width h w =
    let p : 2 ^ 32 ≤ 2 ^ align = pow_mono h in
    let q : width < 2 ^ align = omega (arith, p, w) in
    first align h ∙ sym (second (2 ^ align) width q)
  where
    first : (n : ℕ) → 32 ≤ n → nat_lt n 32 ≡ false
    first n l = grind (arith, nat_tests)

    second : (m n : ℕ) → n < m → nat_le m n ≡ false
    second m n l = grind (arith, nat_tests)
