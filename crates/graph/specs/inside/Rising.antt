-- A list whose key rises is the only order of its elements in which the key does not fall.
use Rattle.std.proofs.Common.{inl, inr, ◌≡◌, ◌⊎◌, ℕ, zero, suc, ◌<◌, ◌≤◌, List, [], ◌∷◌, length, get_or, map, true, refl, ap, sym, ◌∙◌, arith, eqb}
use Rattle.std.specs.List.{AllByRecursion, Contains, IsDistinct}
use Rattle.std.specs.List.Sorted.{IsNonDecreasing, IsNonDecreasingBy, IsPermutation, IsStrictlyIncreasing}
use Rattle.std.proofs.lemmas.List.{get_or-map}
use Rattle.std.proofs.lemmas.Bool.{ne_eqb}
use Rattle.std.proofs.lemmas.Bool.Decides.{eqb_tells}
use Rattle.std.proofs.lemmas.List.Kept.{AllPairs-from_increasing}
use Rattle.std.proofs.lemmas.List.Sorted.{Contains-permutation, IsPermutation-map, IsPermutation-sym, IsPermutation-trans}
use Rattle.std.proofs.lemmas.Map.Keys.{IsDistinct-IsPermutation, IsDistinct-from_apart, IsStrictlyIncreasing-from_distinct}

-- the element is in the list, by recursion
abbrev In : {X : Type 0} → X → List X → Type 0
In z [] = ⊥
In z (x ∷ xs) = (z ≡ x) ⊎ In z xs

-- each key is below those after it, by recursion
abbrev pub Rises : {X : Type 0} → (X → ℕ) → List X → Type 0
Rises key [] = Unit {0}
Rises key (x ∷ xs) = AllByRecursion (λ y. key x < key y) xs × Rises key xs

above : {X : Type 0} (key : X → ℕ) (n : ℕ) (xs : List X) → ((j : ℕ) → j < length xs → n < get_or (map key xs) j 0)
    → AllByRecursion (λ y. n < key y) xs
above key n [] h = tt
above key n (y ∷ ys) h = (h 0 (omega arith), above key n ys (λ j below. h (suc j) (omega arith)))

rises : {X : Type 0} (key : X → ℕ) (xs : List X) → ((i j : ℕ) → i < j → j < length xs → get_or (map key xs) i 0 < get_or (map key xs) j 0)
    → Rises key xs
rises key [] h = tt
rises key (x ∷ xs) h = (
  above key (key x) xs (λ j below. h 0 (suc j) (omega arith) (omega arith)),
  rises key xs (λ i j before below. h (suc i) (suc j) (omega arith) (omega arith)),
)

pub length_map_here : {X : Type 0} (key : X → ℕ) (xs : List X) → length (map key xs) ≡ length xs
length_map_here key [] = refl
length_map_here key (x ∷ xs) = ap suc (length_map_here key xs)

pub rises_from : {X : Type 0} (key : X → ℕ) (xs : List X) → IsStrictlyIncreasing (map key xs) → Rises key xs
rises_from key xs h =
    let pairs = AllPairs-from_increasing (map key xs) h in
    rises key xs (λ i j before below. pairs i j 0 before (rw (length_map_here key xs) below))

is_above : {X : Type 0} (key : X → ℕ) (n : ℕ) (z : X) (xs : List X) → AllByRecursion (λ y. n < key y) xs → In z xs → n < key z
is_above key n z [] all h = absurd h
is_above key n z (x ∷ xs) all (inl e) = rw e all.0
is_above key n z (x ∷ xs) all (inr h) = is_above key n z xs all.1 h

in_at : {X : Type 0} (z : X) (xs : List X) (k : ℕ) → k < length xs → get_or xs k z ≡ z → In z xs
in_at z [] k below e = absurd (omega arith)
in_at z (x ∷ xs) zero below e = inl (sym e)
in_at z (x ∷ xs) (suc k) below e = inr (in_at z xs k (omega arith) e)

contains : {X : Type 0} (z : X) (xs : List X) → In z xs → Contains xs z
contains z [] h = absurd h
contains z (x ∷ xs) (inl e) = (0, omega arith, sym e)
contains z (x ∷ xs) (inr h) = let there = contains z xs h in (suc there.0, omega (arith, there.1), there.2)

in_permutation : {X : Type 0} (z : X) (xs ys : List X) → IsPermutation xs ys → In z xs → In z ys
in_permutation z xs ys same h =
    let there = Contains-permutation xs ys z same (contains z xs h) in in_at z ys there.0 there.1 there.2

-- the first elements are the same
first : {X : Type 0} (key : X → ℕ) (x y : X) (xs ys : List X) → AllByRecursion (λ z. key x < key z) xs → AllByRecursion (λ z. key y < key z) ys
    → In x (y ∷ ys) → In y (x ∷ xs) → x ≡ y
first key x y xs ys above_x above_y (inl e) there = e
first key x y xs ys above_x above_y (inr h) (inl e) = sym e
first key x y xs ys above_x above_y (inr h) (inr i) =
    let low = is_above key (key y) x ys above_y h in
    let high = is_above key (key x) y xs above_x i in
    absurd (omega arith)

-- an element after the first is after the same first
behind : {X : Type 0} (key : X → ℕ) (z x y : X) (xs ys : List X) → AllByRecursion (λ w. key x < key w) xs → x ≡ y → In z xs → In z (y ∷ ys) → In z ys
behind key z x y xs ys above_x e here (inl f) =
    let low = is_above key (key x) z xs above_x here in
    let same : key z ≡ key x = ap key (f ∙ sym e) in
    absurd (omega arith)
behind key z x y xs ys above_x e here (inr h) = h

same_members : {X : Type 0} (key : X → ℕ) (xs ys : List X) → Rises key xs → Rises key ys
    → ((z : X) → In z xs → In z ys) → ((z : X) → In z ys → In z xs) → xs ≡ ys
same_members key [] [] rise_x rise_y to back = refl
same_members key [] (y ∷ ys) rise_x rise_y to back = absurd (back y (inl refl))
same_members key (x ∷ xs) [] rise_x rise_y to back = absurd (to x (inl refl))
same_members key (x ∷ xs) (y ∷ ys) rise_x rise_y to back =
    let e = first key x y xs ys rise_x.0 rise_y.0 (to x (inl refl)) (back y (inl refl)) in
    let rest = same_members key xs ys rise_x.1 rise_y.1
    (λ z h. behind key z x y xs ys rise_x.0 e h (to z (inr h)))
    (λ z h. behind key z y x ys xs rise_y.0 (sym e) h (back z (inr h))) in
    ap (λ w. w ∷ xs) e ∙ ap (λ ws. y ∷ ws) rest

pub rising_same : {X : Type 0} (key : X → ℕ) (xs ys : List X) → IsStrictlyIncreasing (map key xs) → IsStrictlyIncreasing (map key ys)
    → IsPermutation xs ys → xs ≡ ys
rising_same key xs ys rise_x rise_y same =
    same_members key xs ys (rises_from key xs rise_x) (rises_from key ys rise_y)
    (λ z h. in_permutation z xs ys same h) (λ z h. in_permutation z ys xs (IsPermutation-sym xs ys same) h)

pub equal : (x y : ℕ) → x ≡ y → eqb x y ≡ true
equal x y e = elim (eqb_tells x y) [ inl h ↦ h.0 | inr h ↦ absurd (h.1 e) ]

flips : (x y : ℕ) → eqb x y ≡ eqb y x
flips x y = elim (eqb_tells x y) [
  | inl h ↦ h.0 ∙ sym (equal y x (sym h.1))
  | inr h ↦ h.0 ∙ sym (ne_eqb y x (λ e. h.1 (sym e)))
]

-- a list whose key does not fall rises, if it has the elements of one that does
rises_too : {X : Type 0} (key : X → ℕ) (xs ys : List X) → IsNonDecreasing (map key xs) → IsStrictlyIncreasing (map key ys)
    → IsPermutation xs ys → IsStrictlyIncreasing (map key xs)
rises_too key xs ys sorted rise same =
    let pairs = AllPairs-from_increasing (map key ys) rise in
    let apart : IsDistinct eqb (map key ys) = IsDistinct-from_apart eqb (map key ys) (λ i j d before below. let less = pairs i j d before below in ne_eqb _ _ (λ e. omega arith)) in
    IsStrictlyIncreasing-from_distinct (map key xs) sorted
    (IsDistinct-IsPermutation eqb flips (map key ys) (map key xs) (IsPermutation-map key ys xs (IsPermutation-sym xs ys same)) apart)

pub sorted_same : {X : Type 0} (key : X → ℕ) (xs ys : List X) → IsNonDecreasing (map key xs) → IsStrictlyIncreasing (map key ys)
    → IsPermutation xs ys → xs ≡ ys
sorted_same key xs ys sorted rise same = rising_same key xs ys (rises_too key xs ys sorted rise same) rise same

-- a list that was sorted has become the order of its elements in which the keys rise
pub order_is : {X : Type 0} (key : X → ℕ) (old new rising : List X) → IsPermutation old new → IsNonDecreasing (map key new)
    → IsPermutation old rising → IsStrictlyIncreasing (map key rising) → new ≡ rising
order_is key old new rising moved sorted same rise =
    sorted_same key new rising sorted rise (IsPermutation-trans _ _ _ (IsPermutation-sym old new moved) same)

at_default : {X : Type 0} (key : X → ℕ) (xs : List X) → IsNonDecreasingBy key xs → (i j d : ℕ) → i ≤ j → j < length xs
    → get_or (map key xs) i d ≤ get_or (map key xs) j d
at_default key [] sorted i j d before below = absurd (omega arith)
at_default key (x ∷ xs) sorted i j d before below =
    let up = sorted i j x before below in
    let low : get_or (map key (x ∷ xs)) i d ≡ key (get_or (x ∷ xs) i x) = get_or-map key (x ∷ xs) i x d (omega arith) in
    let high : get_or (map key (x ∷ xs)) j d ≡ key (get_or (x ∷ xs) j x) = get_or-map key (x ∷ xs) j x d below in
    omega arith

-- where a key does not fall along a list, the keys do not
pub keys_sorted : {X : Type 0} (key : X → ℕ) (xs : List X) → IsNonDecreasingBy key xs → IsNonDecreasing (map key xs)
keys_sorted key xs sorted = λ i j d before below. at_default key xs sorted i j d before (rw (length_map_here key xs) at below)
