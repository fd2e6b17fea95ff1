-- Cycles of calls, where `calls` returns the functions that each function calls.
use Rattle.std.specs.Prelude.{◌≡◌, ◌≢◌, ℕ, ◌<◌, ◌≤◌, List, [], ◌∷◌, length, slice_index}
use Rattle.std.specs.List.{AllByRecursion}
use Rattle.verified.specs.Calls.{Calls}

-- a list of functions leads from f to g: the first is f, each calls the next, and the last calls g
abbrev pub Leads : (ℕ → List ℕ) → ℕ → List ℕ → ℕ → Type 0
Leads calls f [] g = f ≡ g
Leads calls f (x ∷ xs) g = (y : ℕ) × (f ≡ x) × Calls calls f y × Leads calls y xs g

-- each calls the next, and the last calls the first
abbrev pub IsCycle : (ℕ → List ℕ) → List ℕ → Type 0
IsCycle calls [] = ⊥
IsCycle calls (x ∷ xs) = Leads calls x (x ∷ xs) x

abbrev pub Acyclic : (ℕ → List ℕ) → Type 0
Acyclic calls = (xs : List ℕ) → IsCycle calls xs → ⊥

-- no number is listed twice
abbrev pub AreDistinct : List ℕ → Type 0
AreDistinct [] = Unit {0}
AreDistinct (x ∷ xs) = AllByRecursion (λ y. y ≢ x) xs × AreDistinct xs

-- none is less than the first
abbrev pub LeastFirst : List ℕ → Type 0
LeastFirst xs = (k : ℕ) → k < length xs → slice_index xs 0 ≤ slice_index xs k
