-- What contracts say of files.
use Rattle.std.specs.Prelude.{ℕ, ⊤, ◌⊎◌, List, [], ◌∷◌, ◌++◌, take, Option, Some}

-- What may be true of the files: at a path this content may be found, or no file that can be read; writing to a path may
-- fail; and these are all writes so far, each with its path and its bytes, in order.
pub record Disk : Type 1 where
  pub holds : List ℕ → Option (List ℕ) → Type 0
  pub refuses : List ℕ → Type 0
  pub wrote : List (List ℕ × List ℕ) → Type 0

-- files of which nothing is known
abbrev pub unknown : Disk
unknown = record { holds = λ _ _. ⊤; refuses = λ _. ⊤; wrote = λ _. ⊤ }

-- reading changed nothing: what may be found after it could be found before, and nothing was written
pub record Stays (before after : Disk) : Type 0 where
  pub holds : (path : List ℕ) (found : Option (List ℕ)) → after.holds path found → before.holds path found
  pub refuses : (path : List ℕ) → after.refuses path → before.refuses path
  pub wrote : (writes : List (List ℕ × List ℕ)) → before.wrote writes → after.wrote writes

-- these bytes were written to the path, and nothing else was written
abbrev pub Writes : (path bytes : List ℕ) → (before after : Disk) → Type 0
Writes path bytes before after =
    (writes : List (List ℕ × List ℕ)) → before.wrote writes → after.wrote (writes ++ (path, bytes) ∷ [])

-- nothing was written, or a beginning of these bytes to the path
abbrev pub Tries : (path bytes : List ℕ) → (before after : Disk) → Type 0
Tries path bytes before after =
    (writes : List (List ℕ × List ℕ)) → before.wrote writes
    → after.wrote writes ⊎ ((count : ℕ) × after.wrote (writes ++ (path, take count bytes) ∷ []))

-- at the path a file may be found whose content has this property
abbrev pub HoldsAt : Disk → (path : List ℕ) → (List ℕ → Type 0) → Type 0
HoldsAt disk path P = (content : List ℕ) × disk.holds path (Some content) × P content
