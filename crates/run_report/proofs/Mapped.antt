-- A loop that adds to one list what stands for the next of another.
use Rattle.std.proofs.Common.{◌≡◌, ◌∙◌, ℕ, ◌+◌, ◌<◌, ◌++◌, ◌∷◌, [], List, ap, get_or, length, map, sym, take}
use Rattle.std.proofs.lemmas.List.{map_more, map_push}

pub mapped_more : {X Y Z : Type 0} (f : Y → Z) (g : X → Z) → (xs : List X) (i : ℕ) (d : X) (ys more : List Y) (y : Y) → i < length xs
    → more ≡ ys ++ y ∷ [] → f y ≡ g (get_or xs i d) → map f ys ≡ map g (take i xs) → map f more ≡ map g (take (i + 1) xs)
mapped_more f g xs i d ys more y within grows stands so_far =
    ap (map f) grows ∙ map_push f ys y ∙ ap (λ zs. zs ++ f y ∷ []) so_far ∙ ap (λ z. map g (take i xs) ++ z ∷ []) stands
    ∙ sym (map_more g xs i d within)
