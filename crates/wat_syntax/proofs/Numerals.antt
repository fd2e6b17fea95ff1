-- Decimal digits, there and back.
use Rattle.std.proofs.Common.{◌≡◌, ◌<◌, ◌≤◌, ◌^◌, ℕ, Bool, true, false, List, [], ◌∷◌, length, Some, Result, Ok, refl, ap, ◌∙◌, arith}
use Rattle.std.specs.Prelude.{◌&&◌, nat_lt}
use Rattle.std.specs.Char.{is_ascii_digit}
use Rattle.std.specs.Str.{all_ascii_digits, IsUtf8}
use Rattle.std.specs.Str.Parse.{digits_value, ParsesUnsigned}
use Rattle.std.specs.Fmt.{decimal}
use Rattle.std.proofs.lemmas.Bool.Decides.{nat_tests}
use Rattle.std.proofs.lemmas.Str.Parse.{IsNumeralModel, numerals_by_value, tells_all_ascii_digits, parse_gives}
use Rattle.std.proofs.lemmas.Fmt.{digits_decimal, digits_value-decimal, decimal_nonempty, IsAscii-from_digits}
use Rattle.std.proofs.lemmas.Str.{IsUtf8-from_ascii}
use Rattle.std.proofs.lemmas.Option.{cond_some}
use Rattle.wat_syntax.specs.inside.Lexing.{numeral_of, begins_with_digit}
use borrow.Author.Tests.{ltb-true}

pub own : IsNumeralModel (λ ds. all_ascii_digits ds ≡ true) (digits_value 10)
own = numerals_by_value (λ ds. all_ascii_digits ds ≡ true) tells_all_ascii_digits

pub record IsNumeralText (w : List ℕ) (n : ℕ) : Type 0 where
  pub some : 0 < length w
  pub digits : all_ascii_digits w ≡ true
  pub small : digits_value 10 w < 2 ^ 64
  pub same : digits_value 10 w ≡ n

pub and_parts : (a b : Bool) → (a && b) ≡ true → (a ≡ true) × (b ≡ true)
and_parts true true e = (refl, refl)
and_parts true false e = absurd cc
and_parts false b e = absurd cc

pub numeral_parts : (w : List ℕ) (n : ℕ) → numeral_of w ≡ Some n → IsNumeralText w n
unfolding numeral_of
numeral_parts w n e =
    let p = cond_some (nat_lt 0 (length w) && all_ascii_digits w && nat_lt (digits_value 10 w) (2 ^ 64)) (digits_value 10 w) n e in
    let a = and_parts (nat_lt 0 (length w) && all_ascii_digits w) (nat_lt (digits_value 10 w) (2 ^ 64)) p.0 in
    let b = and_parts (nat_lt 0 (length w)) (all_ascii_digits w) a.0 in
    record { some = ltb-true 0 (length w) b.0; digits = b.1; small = ltb-true (digits_value 10 w) (2 ^ 64) a.1; same = p.1 }

pub numeral_ok : {E : Type 0} (w : List ℕ) (n : ℕ) (r : Result ℕ E) → ParsesUnsigned 64 10 w r → numeral_of w ≡ Some n → r ≡ Ok n
numeral_ok w n r h e =
    let p = numeral_parts w n e in
    parse_gives own 64 w r h p.digits p.some p.small ∙ ap Ok p.same

pub numeral_utf8 : (w : List ℕ) (n : ℕ) → numeral_of w ≡ Some n → IsUtf8 w
numeral_utf8 w n e = IsUtf8-from_ascii w (IsAscii-from_digits w (own.to w (numeral_parts w n e).digits))

pub digits_begin : (w : List ℕ) → all_ascii_digits w ≡ true → 0 < length w → begins_with_digit w ≡ true
digits_begin [] e some = absurd (omega arith)
digits_begin (c ∷ cs) e some =
    let p = and_parts (is_ascii_digit c) (all_ascii_digits cs) e in
    let lo : 48 ≤ c = grind (arith, nat_tests) in
    let hi : c ≤ 57 = grind (arith, nat_tests) in
    grind (arith, nat_tests)

pub numeral_begins : (w : List ℕ) (n : ℕ) → numeral_of w ≡ Some n → begins_with_digit w ≡ true
numeral_begins w n e = let p = numeral_parts w n e in digits_begin w p.digits p.some

-- what is printed is read again
pub numeral_again : (n : ℕ) → n < 2 ^ 64 → numeral_of (decimal n) ≡ Some n
unfolding numeral_of
numeral_again n small =
    let value = digits_value-decimal own n small in
    rw (le_test 0 (length (decimal n)) (decimal_nonempty n small), digits_decimal own n small, value, le_test n (2 ^ 64) small) refl
  where
    le_test : (a b : ℕ) → a < b → nat_lt a b ≡ true
    le_test a b h = grind arith

pub decimal_begins : (n : ℕ) → n < 2 ^ 64 → begins_with_digit (decimal n) ≡ true
decimal_begins n small = digits_begin (decimal n) (digits_decimal own n small) (decimal_nonempty n small)
