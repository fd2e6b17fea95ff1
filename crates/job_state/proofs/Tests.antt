-- What the test of an inbox tells.
use Rattle.std.proofs.Common.{◌≡◌, ℤ, ◌<◌, Bool, true, false, List, length, eqb, ap, sym, ◌∙◌, arith}
use Rattle.std.proofs.lemmas.Bool.{eqb-false}
use Rattle.std.proofs.lemmas.Map.Views.{exact_unsigned_eq}

pub test_true : (seen inbox : List ℤ) (result : Bool) → seen ≡ inbox → result ≡ eqb (length seen) 0 → result ≡ true → length inbox ≡ 0
test_true seen inbox result same is told = ap length (sym same) ∙ exact_unsigned_eq (length seen) 0 (sym is ∙ told)

pub test_false : (seen inbox : List ℤ) (result : Bool) → seen ≡ inbox → result ≡ eqb (length seen) 0 → result ≡ false → 0 < length inbox
test_false seen inbox result same is told =
    let some = eqb-false (length seen) 0 (sym is ∙ told) in
    omega (arith, ap length same, some)
