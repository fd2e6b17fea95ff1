-- Bytes as they are written in a string of the text format (Core 1.0, 6.3.3).
use Rattle.std.specs.Prelude.{ℕ, ◌/◌, ◌%◌, Bool, false, not, ◌&&◌, ◌==◌, nat_le, List, [], ◌∷◌, if◌then◌else◌}
use Rattle.std.specs.List.{flat_map}
use Rattle.std.specs.Fmt.{digit_glyph}

-- the bytes from the blank to the tilde, except the quotation mark and the backslash
abbrev pub needs_no_escape : ℕ → Bool
needs_no_escape b = nat_le 32 b && nat_le b 126 && not (b == 34) && not (b == 92)

-- a backslash and two lower-case hexadecimal digits
abbrev pub escape : ℕ → List ℕ
escape b = 92 ∷ digit_glyph false (b / 16) ∷ digit_glyph false (b % 16) ∷ []

abbrev pub escaped : ℕ → List ℕ
escaped b = if needs_no_escape b then b ∷ [] else escape b

abbrev pub quoted : List ℕ → List ℕ
quoted bytes = flat_map escaped bytes
