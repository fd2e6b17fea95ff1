-- A list cut into parts by the remainder of a key.
use Rattle.std.proofs.Common.{ℕ, ◌%◌, List, map, filter, eqb}
use Rattle.std.specs.List.{flat_map, range_with_len}

-- the elements of one part: those whose key has this remainder
abbrev pub part_by : {X : Type 0} → (X → ℕ) → ℕ → List X → ℕ → List X
part_by key count xs part = filter (λ x. eqb (key x % count) part) xs

-- the parts, in order
abbrev pub parts_by : {X : Type 0} → (X → ℕ) → ℕ → List X → List (List X)
parts_by key count xs = map (part_by key count xs) (range_with_len 0 count)

abbrev pub joined : {X : Type 0} → List (List X) → List X
joined {X} lists = flat_map (λ (list : List X). list) lists
