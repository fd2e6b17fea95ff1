-- The lines of the bytes that a session reads.
use Rattle.std.specs.Prelude.{ℕ, ◌==◌, Bool, List, [], ◌∷◌, ◌++◌, if◌then◌else◌}

abbrev pub is_feed : ℕ → Bool
is_feed byte = byte == 10

-- the lines that end in these bytes, where these others of the first line came before
abbrev pub lines_from : (begun bytes : List ℕ) → List (List ℕ)
lines_from begun [] = []
lines_from begun (byte ∷ bytes) =
    if is_feed byte then begun ∷ lines_from [] bytes else lines_from (begun ++ byte ∷ []) bytes

-- the bytes after the last line feed, which are no line yet
abbrev pub rest_from : (begun bytes : List ℕ) → List ℕ
rest_from begun [] = begun
rest_from begun (byte ∷ bytes) = if is_feed byte then rest_from [] bytes else rest_from (begun ++ byte ∷ []) bytes

-- the lines in these bytes, each without its line feed; the bytes after the last line feed are no line
abbrev pub lines_of : List ℕ → List (List ℕ)
lines_of bytes = lines_from [] bytes
