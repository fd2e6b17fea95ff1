-- Numbers in two's complement at each width: the casts of Rust and the signed reading of the instructions undo each other.
use Rattle.std.proofs.Common.{◌≡◌, ℕ, ℤ, pos, negsuc, ◌-ℤ◌, suc, ◌-◌, ◌*◌, ◌^◌, ◌<◌, ◌≤◌, inl, inr, refl, arith}
use Rattle.std.proofs.lemmas.Bool.{lt-ltb, le-ltb, cases_lt}
use Rattle.std.proofs.lemmas.Int.{ints}
use Rattle.std.specs.Int.{cast_unsigned}
use mir.Syntax.{Width}
use mir.Val.{bits}
use Rattle.leb.specs.Spelling.{FitsBits}
use Rattle.wasm_ast.specs.Numeric.{signed}

module _ (w : Width) (half : 2 ^ bits w ≡ 2 * 2 ^ (bits w - 1)) where
  pub cast_unsigned-signed : (n : ℕ) → n < 2 ^ bits w → cast_unsigned w (signed (bits w) n) ≡ n
  cast_unsigned-signed n fits = elim (cases_lt n (2 ^ (bits w - 1))) [
    | inl low ↦ rw (lt-ltb n _ low) refl
    | inr high ↦
        let below : pos n -ℤ pos (2 ^ bits w) ≡ negsuc (2 ^ bits w - suc n) = omega (arith, ints) in
        rw (le-ltb n _ high, below) (omega arith)
  ]

  pub signed-cast_unsigned : (z : ℤ) → FitsBits (bits w) z → signed (bits w) (cast_unsigned w z) ≡ z
  signed-cast_unsigned (pos n) fits =
      let low : n < 2 ^ (bits w - 1) = omega (arith, ints, fits.high) in
      rw (lt-ltb n _ low) refl
  signed-cast_unsigned (negsuc n) fits =
      let high : 2 ^ (bits w - 1) ≤ cast_unsigned w (negsuc n) = omega (arith, ints, half, fits.low) in
      rw (le-ltb _ _ high) (omega (arith, ints, half, fits.low))

  pub cast_unsigned_below : (z : ℤ) → FitsBits (bits w) z → cast_unsigned w z < 2 ^ bits w
  cast_unsigned_below (pos n) fits = omega (arith, ints, half, fits.high)
  cast_unsigned_below (negsuc n) fits = omega (arith, ints, half, fits.low)
