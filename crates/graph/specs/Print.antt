-- How values are printed.
use Rattle.std.specs.Prelude.{ℕ, ℤ, List, [], ◌∷◌, ◌++◌, codes}
use Rattle.std.specs.List.{flat_map}
use Rattle.std.specs.Fmt.{decimal, signed_decimal}

-- `v ID VALUE`, and a line feed
abbrev pub value_line : ℕ × ℤ → List ℕ
value_line entry = codes "v " ++ decimal entry.0 ++ codes " " ++ signed_decimal entry.1 ++ 10 ∷ []

abbrev pub value_lines : List (ℕ × ℤ) → List ℕ
value_lines values = flat_map value_line values

abbrev pub id_in : ℕ × ℤ → ℕ
id_in entry = entry.0
