-- Words in XML.
use Rattle.std.specs.Prelude.{ℕ, ◌||◌, ◌==◌, List, codes, encode_utf8, nat_lt, if◌then◌else◌}

-- what is written for a character: what would be read as a mark by its name, and a blank for what XML has no letter for
abbrev pub mark_of : ℕ → List ℕ
mark_of letter =
    if letter == 38 then codes "&amp;"
    else if letter == 60 then codes "&lt;"
    else if letter == 62 then codes "&gt;"
    else if letter == 34 then codes "&quot;"
    else if nat_lt letter 32 || letter == 65534 || letter == 65535 then codes " "
    else encode_utf8 letter
