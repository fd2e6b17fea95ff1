-- The words of a text (Core 1.0, 6.3.1).
use Rattle.std.specs.Prelude.{ℕ, Bool, ◌&&◌, not, nat_lt, ◌==◌, List, take}
use Rattle.std.specs.List.{prefix_len}

-- whether the byte may be in a name, a keyword or a number
unfoldable pub is_word : ℕ → Bool
is_word b =
    nat_lt 32 b && nat_lt b 127 && not (b == 34) && not (b == 40) && not (b == 41) && not (b == 44) && not (b == 59)
    && not (b == 91) && not (b == 93) && not (b == 123) && not (b == 125)

-- the bytes up to the first that may not be in a word
abbrev pub first_word : List ℕ → List ℕ
first_word bs = take (prefix_len is_word bs) bs
