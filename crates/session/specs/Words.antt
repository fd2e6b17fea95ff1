-- The words of a line.
use Rattle.std.specs.Prelude.{ℕ, nat_le, Bool, ◌||◌, ◌&&◌, ◌==◌, List, length, filter}
use Rattle.std.specs.List.{list_all, slice_split}
use Rattle.std.specs.Char.{is_ascii_alphanumeric}
use Rattle.line_text.specs.Fields.{is_filled}

-- the parts of a line between spaces, without empty ones
abbrev pub words_of : List ℕ → List (List ℕ)
words_of line = filter is_filled (slice_split (λ byte. byte == 32) line)

-- an ASCII letter or digit, `_` or `-`
abbrev pub is_name_byte : ℕ → Bool
is_name_byte byte = is_ascii_alphanumeric byte || (byte == 95) || (byte == 45)

-- 1 to 32 such bytes
abbrev pub is_name : List ℕ → Bool
is_name word = is_filled word && nat_le (length word) 32 && list_all is_name_byte word
