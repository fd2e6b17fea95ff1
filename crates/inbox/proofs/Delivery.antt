-- One more letter: the inbox of its id grows, and no other.
use Rattle.std.proofs.Common.{◌≡◌, ◌≢◌, ◌<◌, ◌≤◌, ℕ, ℤ, pos, true, false, List, [], ◌∷◌, ◌++◌, map, length, get_or, replicate, arith, append-nil, w64, negsuc, ◌^◌, Result, Ok, Err, IfNone, to_z, of_z, inl, inr, refl, sym, ap, ◌∙◌}
use Rattle.std.proofs.Math.ListN.{set}
use Rattle.std.proofs.lemmas.Bool.{cases_eq}
use Rattle.std.proofs.lemmas.Bool.Decides.{nat_tests}
use Rattle.std.proofs.lemmas.Grind.{get_or-set_at}
use Rattle.std.proofs.lemmas.List.{get_or-map, get_or-set_other, length-map, length-set, same_lists, map-append}
use Rattle.std.proofs.lemmas.List.Elements.{filter-append, All-from_get_or}
use Rattle.std.proofs.lemmas.List.Folds.{list_any_none}
use Rattle.std.proofs.lemmas.Map.Keys.{sorted_from_strictly_increasing, below_from_sorted, non_decreasing_from_sorted}
use Rattle.std.specs.List.{list_any}
use Rattle.std.specs.Int.{FitsUnsignedBits}
use Rattle.std.proofs.lemmas.Int.{ints, to_z-of_z}
use Rattle.std.proofs.lemmas.List.Sorted.{searched}
use Rattle.std.specs.Result.{MatchResult, result_ok}
use lib.IntN.{nat_abs}
use mir.Val.{SFits}
use Rattle.std.specs.List.Sorted.{IsStrictlyIncreasing, IsBinarySearchResult}
use Rattle.std.specs.Ordering.{int_eq, nat_cmp}
use Rattle.inbox.specs.declared.letters.Letter.{Letter}
use Rattle.inbox.specs.Merging.{goes_to, inbox_of}

-- numbers that rise are the same only at one place
apart : (ids : List ℕ) (i k : ℕ) → IsStrictlyIncreasing ids → i < length ids → k < length ids → k ≢ i → get_or ids k 0 ≢ get_or ids i 0
apart ids i k up inside here other same =
    let sorted = sorted_from_strictly_increasing ids up in
    grind (arith, below_from_sorted ids i k 0 sorted, below_from_sorted ids k i 0 sorted)

-- a list of inboxes with another at one place
placed : (f g : ℕ → List ℤ) (ids : List ℕ) (i : ℕ) → i < length ids → ((k : ℕ) → k < length ids → k ≢ i → f (get_or ids k 0) ≡ g (get_or ids k 0)) → set (map f ids) i (g (get_or ids i 0)) ≡ map g ids
placed f g ids i inside others =
    same_lists (set (map f ids) i (g (get_or ids i 0))) (map g ids) (simp (length-set, length-map)) (λ k d h.
    let here : k < length ids = simp (length-set, length-map) at h in
    let fits : i < length (map f ids) = rw length-map inside in
    let f-at : get_or (map f ids) k d ≡ f (get_or ids k 0) = get_or-map f ids k 0 d here in
    let g-at : get_or (map g ids) k d ≡ g (get_or ids k 0) = get_or-map g ids k 0 d here in
    elim (cases_eq k i) [
      | inl e ↦ get_or-set_at (map f ids) i k (g (get_or ids i 0)) d e fits ∙ (ap (λ j. g (get_or ids j 0)) (sym e) ∙ sym g-at)
      | inr other ↦ get_or-set_other (map f ids) i k (g (get_or ids i 0)) d other ∙ (f-at ∙ (others k here other ∙ sym g-at))
    ])

-- the inbox of an id that the letter goes to, and of one that it does not
pub grows : (sent : List Letter) (letter : Letter) (id : ℕ) → goes_to letter id ≡ true → inbox_of (sent ++ letter ∷ []) id ≡ inbox_of sent id ++ letter.value ∷ []
grows sent letter id goes = simp (filter-append, map-append, goes)

pub stays : (sent : List Letter) (letter : Letter) (id : ℕ) → goes_to letter id ≡ false → inbox_of (sent ++ letter ∷ []) id ≡ inbox_of sent id
stays sent letter id goes = simp (filter-append, map-append, goes) (simp append-nil)

same_id : (n m : ℕ) → n ≡ m → int_eq (pos n) (pos m) ≡ true
same_id n m e = grind (arith, nat_tests)

pub other_id : (n m : ℕ) → m ≢ n → int_eq (pos n) (pos m) ≡ false
other_id n m e = grind (arith, nat_tests)

-- no id is negative
unfit : (z : ℤ) (ids : List ℕ) → SFits w64 z → (FitsUnsignedBits 64 z → ⊥) → list_any (λ other. int_eq z (pos other)) ids ≡ false
unfit z [] signed out = refl
unfit (pos n) (id ∷ ids) signed out = let below : n < 2 ^ 64 = omega (arith, ints) in absurd (out below)
unfit (negsuc n) (id ∷ ids) signed out = unfit (negsuc n) ids signed out

pub none_unfit : (z : ℤ) (ids : List ℕ) → SFits w64 z → (FitsUnsignedBits 64 (to_z w64 (of_z w64 z)) → ⊥) → list_any (λ other. int_eq z (pos other)) ids ≡ false
none_unfit z ids signed out = unfit z ids signed (simp to_z-of_z at out)

number : (z : ℤ) (n : ℕ) → FitsUnsignedBits 64 z → n ≡ nat_abs z → z ≡ pos n
number (pos m) n fits is = ap pos (sym is)
number (negsuc m) n fits is = absurd fits

-- a number that would stand between those below it and those above it
none_between : (n : ℕ) (ids : List ℕ) (i : ℕ) → ((k : ℕ) → k < i → get_or ids k 0 < n) → ((k : ℕ) → i ≤ k → k < length ids → n < get_or ids k 0) → list_any (λ other. int_eq (pos n) (pos other)) ids ≡ false
none_between n ids i below above =
    list_any_none _ ids (All-from_get_or (λ other. int_eq (pos n) (pos other) ≡ false) ids 0 (λ k h. other_id n (get_or ids k 0) (λ e. grind (arith, below k, above k))))

from_searched : (n : ℕ) (ids : List ℕ) (r : Result ℕ ℕ) → MatchResult r (λ i. (i < length ids) × (get_or ids i 0 ≡ n)) (λ i. (i ≤ length ids) × ((k : ℕ) → k < i → get_or ids k 0 < n) × ((k : ℕ) → i ≤ k → k < length ids → n < get_or ids k 0)) → IfNone (result_ok r) (list_any (λ other. int_eq (pos n) (pos other)) ids ≡ false)
from_searched n ids (Ok i) found = tt
from_searched n ids (Err i) missed = none_between n ids i missed.1 missed.2

pub from_search : (n : ℕ) (ids : List ℕ) (r : Result ℕ ℕ) → IsStrictlyIncreasing ids → IsBinarySearchResult (λ y. nat_cmp y n) ids r → IfNone (result_ok r) (list_any (λ other. int_eq (pos n) (pos other)) ids ≡ false)
from_search n ids r up found =
    from_searched n ids r (searched ids n r found (λ i j le inside. non_decreasing_from_sorted ids (sorted_from_strictly_increasing ids up) i j 0 le inside))

-- what a search that finds nothing says
pub none_from_search : (z : ℤ) (n : ℕ) (ids : List ℕ) (r : Result ℕ ℕ) → SFits w64 z → FitsUnsignedBits 64 (to_z w64 (of_z w64 z)) × (n ≡ nat_abs (to_z w64 (of_z w64 z))) → IsStrictlyIncreasing ids → IsBinarySearchResult (λ y. nat_cmp y n) ids r → IfNone (result_ok r) (list_any (λ other. int_eq z (pos other)) ids ≡ false)
none_from_search z n ids r signed is up found =
    let same : z ≡ pos n = number z n (simp to_z-of_z at is.0) (simp to_z-of_z at is.1) in
    rw same (from_search n ids r up found)

pub delivers : (sent : List Letter) (letter : Letter) (ids : List ℕ) (i : ℕ) → IsStrictlyIncreasing ids → i < length ids → letter.to ≡ pos (get_or ids i 0) → set (map (inbox_of sent) ids) i (inbox_of sent (get_or ids i 0) ++ letter.value ∷ []) ≡ map (inbox_of (sent ++ letter ∷ [])) ids
delivers sent letter ids i up inside to =
    let mine : goes_to letter (get_or ids i 0) ≡ true = rw to (same_id (get_or ids i 0) (get_or ids i 0) refl) in
    rw (← grows sent letter (get_or ids i 0) mine) (placed (inbox_of sent) (inbox_of (sent ++ letter ∷ [])) ids i inside (λ k h other.
    sym (stays sent letter (get_or ids k 0) (rw to (other_id (get_or ids i 0) (get_or ids k 0) (apart ids i k up inside h other))))))

pub passes : (sent : List Letter) (letter : Letter) (ids : List ℕ) → list_any (goes_to letter) ids ≡ false → map (inbox_of sent) ids ≡ map (inbox_of (sent ++ letter ∷ [])) ids
passes sent letter [] none = refl
passes sent letter (id ∷ ids) none =
    let first : goes_to letter id ≡ false = grind (arith) in
    let others : list_any (goes_to letter) ids ≡ false = grind (arith) in
    rw (stays sent letter id first, passes sent letter ids others)

pub replicate-empty : (ids : List ℕ) → replicate (length ids) [] ≡ map (inbox_of []) ids
replicate-empty [] = refl
replicate-empty (id ∷ ids) = ap (λ inboxes. [] ∷ inboxes) (replicate-empty ids)
