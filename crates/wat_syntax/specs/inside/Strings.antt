-- Strings as printed texts spell them (Core 1.0, 6.3.3): the inverse of `quoted`. None claims nothing.
use Rattle.std.specs.Prelude.{ℕ, ◌+◌, ◌*◌, ◌-◌, ◌&&◌, ◌==◌, nat_le, List, [], ◌∷◌, Option, Some, None, if◌then◌else◌}
use Rattle.wat_syntax.specs.declared.lexer.strings.Part.{Part}
use Rattle.wat_syntax.specs.declared.lexer.strings.Part.TheVariants as part
use Rattle.wat_syntax.specs.inside.Follows.{◌>>=◌}
use Rattle.wat_syntax.specs.Quoted.{needs_no_escape}

-- a decimal digit, or a small letter from a to f
abbrev pub hex_digit : ℕ → Option ℕ
hex_digit b =
    if nat_le 48 b && nat_le b 57 then Some (b - 48)
    else (if nat_le 97 b && nat_le b 102 then Some (b - 87) else None)

pub data Within : Type 0 where
  plain : Within
  -- after a backslash
  escape : Within
  -- after a backslash and a digit
  digit : ℕ → Within

abbrev pub onto : ℕ → Option (List ℕ × List ℕ) → Option (List ℕ × List ℕ)
onto b read = read >>= λ x. Some (b ∷ x.0, x.1)

-- the bytes up to the quotation mark that ends the string, and the text after it
unfoldable pub quote_at : Within → List ℕ → Option (List ℕ × List ℕ)
quote_at w [] = None
quote_at plain (b ∷ bs) =
    if b == 34 then Some ([], bs)
    else (if b == 92 then quote_at escape bs
    else (if needs_no_escape b then onto b (quote_at plain bs) else None))
quote_at escape (b ∷ bs) = hex_digit b >>= λ high. quote_at (digit high) bs
quote_at (digit high) (b ∷ bs) = hex_digit b >>= λ low. onto (high * 16 + low) (quote_at plain bs)

-- only the bytes
abbrev pub string_of : List ℕ → Option (List ℕ)
string_of bytes = quote_at plain bytes >>= λ x. Some x.0

-- ---- one element of a string

-- two digits
abbrev pub escape_at : List ℕ → Option (Part × List ℕ)
escape_at (h ∷ l ∷ rest) = hex_digit h >>= λ high. hex_digit l >>= λ low. Some (part.Byte (high * 16 + low), rest)
escape_at _ = None

abbrev pub step_at : List ℕ → Option (Part × List ℕ)
step_at [] = None
step_at (b ∷ bs) =
    if b == 34 then Some (part.End, bs)
    else (if b == 92 then escape_at bs
    else (if needs_no_escape b then Some (part.Byte b, bs) else None))
