-- The numbers that digits denote.
use Rattle.std.specs.Prelude.{ℕ, ◌-◌, ◌^◌, nat_le, ℤ, pos, neg_ℤ, ◌&&◌, List, drop, Option, Some, None, if◌then◌else◌}
use Rattle.std.specs.Option.{option_map}
use Rattle.std.specs.Str.{all_ascii_digits}
use Rattle.std.specs.Str.Parse.{digits_value, starts_with_minus}
use Rattle.line_text.specs.Fields.{is_filled}

-- one or more decimal digits of a number that is at most `most`
abbrev pub numeral : ℕ → List ℕ → Option ℕ
numeral most digits =
    if is_filled digits && all_ascii_digits digits && nat_le (digits_value 10 digits) most
    then Some (digits_value 10 digits) else None

-- a signed number of 64 bits: decimal digits with an optional minus
abbrev pub number_of : List ℕ → Option ℤ
number_of text =
    if starts_with_minus text then option_map (λ n. neg_ℤ (pos n)) (numeral (2 ^ 63) (drop 1 text))
    else option_map pos (numeral (2 ^ 63 - 1) text)

-- the id of a vertex, which has no sign and is in the range of a signed number of 64 bits
abbrev pub id_of : List ℕ → Option ℕ
id_of text = numeral (2 ^ 63 - 1) text
