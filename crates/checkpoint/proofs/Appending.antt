-- What a loop has appended and checked, with one item more.
use Rattle.std.proofs.Common.{◌≡◌, ◌∙◌, ℕ, List, [], ◌∷◌, ◌++◌, ap, append_assoc}
use Rattle.std.proofs.lemmas.List.{flat_map_more}
use Rattle.std.specs.List.{AllByRecursion, flat_map}

pub appended_more : {A : Type 0} (spelling : A → List ℕ) (old head before now : List ℕ) (seen : List A) (item : A) → before ≡ old ++ (head ++ flat_map spelling seen)
    → now ≡ before ++ spelling item → now ≡ old ++ (head ++ flat_map spelling (seen ++ item ∷ []))
appended_more spelling old head before now seen item so_far put =
    put ∙ ap (λ bytes. bytes ++ spelling item) so_far ∙ append_assoc old (head ++ flat_map spelling seen) (spelling item) ∙ ap (λ bytes. old ++ bytes) (flat_map_more spelling head seen item)

pub each_more : {A : Type 0} (P : A → Type 0) (seen : List A) (item : A) → AllByRecursion P seen → P item → AllByRecursion P (seen ++ item ∷ [])
each_more P [] item all here = (here, tt)
each_more P (x ∷ seen) item all here = (all.0, each_more P seen item all.1 here)
