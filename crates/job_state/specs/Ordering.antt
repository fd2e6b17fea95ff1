-- A list sorted by a key, by insertion.
use Rattle.std.specs.Prelude.{ℕ, List, [], ◌∷◌, nat_lt, if◌then◌else◌}

-- the list with the element before the first whose key is not lower
abbrev pub put_in : {X : Type 0} → (X → ℕ) → X → List X → List X
put_in key x [] = x ∷ []
put_in key x (y ∷ ys) = if nat_lt (key y) (key x) then y ∷ put_in key x ys else x ∷ y ∷ ys

abbrev pub by_key : {X : Type 0} → (X → ℕ) → List X → List X
by_key key [] = []
by_key key (x ∷ xs) = put_in key x (by_key key xs)
