-- The items of a vector, written one after another behind their number.
use Rattle.std.proofs.Common.{◌≡◌, ℕ, ◌+◌, ◌<◌, ◌≤◌, List, ◌++◌, length, take, get_or, sym, ap, ◌∙◌, append_assoc}
use Rattle.std.specs.List.{flat_map}
use Rattle.std.proofs.lemmas.List.{flat_map_more, take_more, take_all}
use Rattle.leb.specs.Spelling.{u32_spelling}
use Rattle.wasm_items.specs.Canonical.{vector}

-- one more is written
pub one_more : {A : Type 0} (item : A → List ℕ) (front now new : List ℕ) (xs : List A) (x : A) (i : ℕ) → i < length xs
    → now ≡ front ++ flat_map item (take i xs) → new ≡ now ++ item (get_or xs i x) → new ≡ front ++ flat_map item (take (i + 1) xs)
one_more {A} item front now new xs x i lt so_far wrote =
    wrote ∙ ap (λ (bytes : List ℕ). bytes ++ item (get_or xs i x)) so_far
    ∙ flat_map_more item front (take i xs) (get_or xs i x)
    ∙ ap (λ (ys : List A). front ++ flat_map item ys) (sym (take_more xs i x lt))

-- all are written
pub all_written : {A : Type 0} (item : A → List ℕ) (front now : List ℕ) (xs : List A) (i : ℕ) → length xs ≤ i
    → now ≡ (front ++ u32_spelling (length xs)) ++ flat_map item (take i xs) → now ≡ front ++ vector item xs
unfolding vector
all_written {A} item front now xs i all so_far =
    so_far ∙ ap (λ (ys : List A). (front ++ u32_spelling (length xs)) ++ flat_map item ys) (take_all i xs all)
    ∙ append_assoc front (u32_spelling (length xs)) (flat_map item xs)
