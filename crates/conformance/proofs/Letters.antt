-- Letters that differ from all that follow them.
use Rattle.std.proofs.Common.{◌≡◌, false, List, [], ◌∷◌, Bool, length, arith}
use Rattle.std.specs.List.{AllByRecursion, IsDistinct, list_any}
use Rattle.std.proofs.lemmas.Bool.{or_parts}
use Rattle.std.proofs.lemmas.Map.Keys.{IsDistinct-cons}
use Rattle.inbox.specs.declared.letters.Letter.{Letter}
use Rattle.inbox.specs.Merging.{are_one}

none_passes : (test : Letter → Bool) (letters : List Letter) → list_any test letters ≡ false → AllByRecursion (λ letter. test letter ≡ false) letters
none_passes test [] none = tt
none_passes test (letter ∷ letters) none =
    let parts = or_parts (test letter) (list_any test letters) none in
    (parts.0, none_passes test letters parts.1)

pub distinct_with : (letter : Letter) (letters : List Letter) → list_any (are_one letter) letters ≡ false → IsDistinct are_one letters → IsDistinct are_one (letter ∷ letters)
distinct_with letter letters none distinct = IsDistinct-cons are_one letter letters (none_passes (are_one letter) letters none) distinct

pub distinct_none : (letters : List Letter) → length letters ≡ 0 → IsDistinct are_one letters
unfolding IsDistinct
distinct_none [] none = tt
distinct_none (letter ∷ letters) none = absurd (omega arith)
