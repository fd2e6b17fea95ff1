-- The number that digits denote, read one after another.
use Rattle.std.proofs.Common.{inl, inr, ◌≡◌, ℕ, ◌+◌, ◌-◌, ◌*◌, ◌^◌, ◌<◌, ◌≤◌, min, Bool, true, false, ◌&&◌, cond, leb, List, [], ◌∷◌, length, take, Option, Some, None, refl, ap, sym, ◌∙◌, arith, get_or, take_all}
use Rattle.std.specs.Prelude.{nat_lt}
use Rattle.std.specs.Char.{digit_value}
use Rattle.std.specs.Int.{IsInRange}
use Rattle.std.specs.Str.{all_ascii_digits}
use Rattle.std.specs.Str.Parse.{digits_value}
use Rattle.std.proofs.lemmas.Bool.{cases_Bool, cases_lt, and_from, and_parts, le-leb, le-ltb, leb-true, lt-ltb}
use Rattle.std.proofs.lemmas.Int.Digits.{digits_value_more}
use Rattle.std.proofs.lemmas.Str.Parse.{IsNumeralModel, numerals_by_value, tells_all_ascii_digits, tells_by_index}
use Rattle.line_text.specs.Fields.{is_filled}
use Rattle.line_text.specs.Number.{numeral}

abbrev pub AreDigits : List ℕ → Type 0
AreDigits digits = (i : ℕ) → i < length digits → IsInRange 48 57 (get_or digits i 0)

own : IsNumeralModel (λ digits. all_ascii_digits digits ≡ true) (digits_value 10)
own = numerals_by_value (λ digits. all_ascii_digits digits ≡ true) tells_all_ascii_digits

by_index : IsNumeralModel AreDigits (digits_value 10)
by_index = numerals_by_value AreDigits tells_by_index

filled-true : (digits : List ℕ) → 0 < length digits → is_filled digits ≡ true
filled-true [] some = absurd (omega arith)
filled-true (digit ∷ digits) some = refl

true_filled : (digits : List ℕ) → is_filled digits ≡ true → 0 < length digits
true_filled [] e = cc
true_filled (digit ∷ digits) e = omega arith

-- one digit or more, of a number of at most so much
pub record IsNumeral (most : ℕ) (digits : List ℕ) : Type 0 where
  pub all : AreDigits digits
  pub some : 0 < length digits
  pub small : digits_value 10 digits ≤ most

abbrev test : ℕ → List ℕ → Bool
test most digits = is_filled digits && all_ascii_digits digits && leb (digits_value 10 digits) most

passes : (most : ℕ) (digits : List ℕ) → IsNumeral most digits → test most digits ≡ true
passes most digits h =
    and_from _ _ (and_from _ _ (filled-true digits h.some) (own.from digits (by_index.to digits h.all))) (le-leb _ _ h.small)

passed : (most : ℕ) (digits : List ℕ) → test most digits ≡ true → IsNumeral most digits
passed most digits e =
    let both = and_parts (is_filled digits && all_ascii_digits digits) (leb (digits_value 10 digits) most) e in
    let front = and_parts (is_filled digits) (all_ascii_digits digits) both.0 in
    record { all = by_index.from digits (own.to digits front.1); some = true_filled digits front.0; small = leb-true _ _ both.1 }

pub some_numeral : (most number : ℕ) (digits : List ℕ) → IsNumeral most digits → number ≡ digits_value 10 digits → Some number ≡ numeral most digits
some_numeral most number digits h e = ap Some e ∙ ap (λ b. cond b (Some (digits_value 10 digits)) None) (sym (passes most digits h))

pub no_numeral : (most : ℕ) (digits : List ℕ) → (IsNumeral most digits → ⊥) → None ≡ numeral most digits
no_numeral most digits other = elim (cases_Bool (test most digits)) [
  | inl good ↦ absurd (other (passed most digits good))
  | inr bad ↦ ap (λ b. cond b (Some (digits_value 10 digits)) None) (sym bad)
]

digit_of : (byte : ℕ) → IsInRange 48 57 byte → digit_value byte ≡ byte - 48
digit_of byte range =
    let low : nat_lt byte 48 ≡ false = le-ltb byte 48 range.0 in
    let high : nat_lt byte 58 ≡ true = lt-ltb byte 58 (omega (arith, range.1)) in
    rw (low, high) refl

-- So many of the digits were read, and this is their number, if a word holds it.
pub record IsRead (digits : List ℕ) (count number : ℕ) : Type 0 where
  pub all : (i : ℕ) → i < count → IsInRange 48 57 (get_or digits i 0)
  pub value : number ≡ min (digits_value 10 (take count digits)) (2 ^ 64 - 1)

pub read_more : (digits : List ℕ) (count number byte next : ℕ) → IsRead digits count number → count < length digits → get_or digits count 0 ≡ byte
    → IsInRange 48 57 byte → next ≡ min (min (number * 10) (2 ^ 64 - 1) + (byte - 48)) (2 ^ 64 - 1) → IsRead digits (count + 1) next
read_more digits count number byte next read short is range e = record {
  all = λ i below. elim (cases_lt i count) [
    | inl before ↦ read.all i before
    | inr last ↦ let same : i ≡ count = omega arith in rw (same, is) range
  ];
  value =
      let more : digits_value 10 (take (count + 1) digits) ≡ digits_value 10 (take count digits) * 10 + digit_value byte =
      digits_value_more 10 digits count short ∙ ap (λ b. digits_value 10 (take count digits) * 10 + digit_value b) is in
      let digit = digit_of byte range in
      let before = read.value in
      omega arith;
}

pub read_none : (digits : List ℕ) → IsRead digits 0 0
read_none digits = record { all = λ i below. absurd (omega arith); value = omega arith }

-- all digits were read
pub read_all : (digits : List ℕ) (count number : ℕ) → IsRead digits count number → length digits ≤ count → IsRead digits (length digits) number
read_all digits count number read past = record {
  all = λ i below. read.all i (omega arith);
  value = read.value ∙ ap (λ ds. min (digits_value 10 ds) (2 ^ 64 - 1)) (take_all count digits past ∙ sym (take_all (length digits) digits (omega arith)));
}

pub numeral_read : (most number : ℕ) (digits : List ℕ) → most < 2 ^ 64 - 1 → IsRead digits (length digits) number → 0 < length digits → number ≤ most
    → Some number ≡ numeral most digits
numeral_read most number digits fits read some small =
    let all : take (length digits) digits ≡ digits = take_all (length digits) digits (omega arith) in
    let value = read.value in
    let same : digits_value 10 (take (length digits) digits) ≡ digits_value 10 digits = ap (digits_value 10) all in
    some_numeral most number digits (record { all = read.all; some = some; small = omega arith }) (omega arith)

pub none_read : (most number : ℕ) (digits : List ℕ) → most < 2 ^ 64 - 1 → IsRead digits (length digits) number → (0 < length digits → most < number)
    → None ≡ numeral most digits
none_read most number digits fits read past =
    let all : take (length digits) digits ≡ digits = take_all (length digits) digits (omega arith) in
    let value = read.value in
    let same : digits_value 10 (take (length digits) digits) ≡ digits_value 10 digits = ap (digits_value 10) all in
    no_numeral most digits (λ h. let some = past h.some in let small = h.small in omega arith)
