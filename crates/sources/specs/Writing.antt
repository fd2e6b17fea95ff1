-- More files than one, written one after another.
use Rattle.std.specs.Prelude.{◌≡◌, ◌⊎◌, ℕ, List, [], ◌∷◌, ◌++◌, take}
use Rattle.sources.specs.Disk.{Disk}

-- these files were written, each by its path and its bytes, in this order, and nothing else was
abbrev pub WritesAll : List (List ℕ × List ℕ) → (before after : Disk) → Type 0
WritesAll items before after =
    (writes : List (List ℕ × List ℕ)) → before.wrote writes → after.wrote (writes ++ items)

-- the files were begun: some were written, and of the next one no more than a beginning
abbrev pub IsBegun : (items begun : List (List ℕ × List ℕ)) → Type 0
IsBegun [] begun = begun ≡ []
IsBegun (item ∷ items) begun =
    (begun ≡ [])
    ⊎ (((count : ℕ) × (begun ≡ (item.0, take count item.1) ∷ []))
    ⊎ ((others : List (List ℕ × List ℕ)) × IsBegun items others × (begun ≡ item ∷ others)))

-- the files were begun, and nothing else was written
abbrev pub TriesAll : List (List ℕ × List ℕ) → (before after : Disk) → Type 0
TriesAll items before after =
    (writes : List (List ℕ × List ℕ)) → before.wrote writes
    → (begun : List (List ℕ × List ℕ)) × IsBegun items begun × after.wrote (writes ++ begun)
