-- Letters to one id lie side by side among letters by target.
use Rattle.std.proofs.Common.{◌≡◌, ◌+◌, ◌≤◌, ◌<◌, ◌-◌, ℕ, suc, ℤ, pos, Bool, true, false, cond, List, [], ◌∷◌, ◌++◌, All, length, take, drop, filter, take_while, get_or, arith, inl, inr, refl, sym, ap, ◌∙◌, length-drop}
use Rattle.std.proofs.lemmas.Bool.{cases_eq, cases_lt, both_ways, false_from_ne_true}
use Rattle.std.proofs.lemmas.Int.{ints}
use Rattle.std.proofs.lemmas.List.{get_or-take, get_or-drop, length-take-le, take-append-drop}
use Rattle.std.proofs.lemmas.List.Elements.{filter-append, recursion_from_All}
use Rattle.std.proofs.lemmas.List.Sums.{take_while-cons, prefix_len_passes, prefix_len_stops}
use Rattle.std.proofs.lemmas.Map.Keys.{Less-from_sorted}
use Rattle.std.specs.List.{AllByRecursion, AllWithin, prefix_len}
use Rattle.std.specs.List.Sorted.{IsStrictlySortedBy, IsPartitionedBy, IsPartitionPoint}
use Rattle.std.specs.Prelude.{int_lt}
use Rattle.std.specs.declared.cmp.Ordering.TheVariants.{Less}
use Rattle.inbox.specs.declared.letters.Letter.{Letter}
use Rattle.inbox.specs.Merging.{goes_to}
use Rattle.inbox.specs.inside.Targets.{target_cmp}

module _ {X : Type 0} (p : X → Bool) where
  filter_none : (xs : List X) → AllByRecursion (λ x. p x ≡ false) xs → filter p xs ≡ []
  filter_none [] all = refl
  filter_none (x ∷ xs) all = rw all.0 (filter_none xs all.1)

module _ {X : Type 0} (P : X → Type 0) (xs : List X) (i : ℕ) where
  -- what holds at each place of a part holds of the part
  each_of_front : i ≤ length xs → AllWithin P xs 0 i → All P (take i xs)
  each_of_front inside all = λ k d h.
      let below : k < i = omega (arith, length-take-le i xs inside) in
      rw (get_or-take i xs k d) (all k d (omega arith) below)

module _ {X : Type 0} (p : X → Bool) where
  later : (x : X) (xs : List X) → IsPartitionedBy p (x ∷ xs) → IsPartitionedBy p xs
  later x xs part = λ i j d le inside is. part (suc i) (suc j) d (omega arith) (omega arith) is

  -- where those that pass stand at the front, going forward while they pass finds all of them
  front_passes : (xs : List X) → IsPartitionedBy p xs → take_while p xs ≡ filter p xs
  front_passes [] part = refl
  front_passes (x ∷ xs) part = take_while-cons p x xs ∙ by (p x) refl (front_passes xs (later x xs part))
    where
      by : (b : Bool) → p x ≡ b → take_while p xs ≡ filter p xs → cond b (x ∷ take_while p xs) [] ≡ cond b (x ∷ filter p xs) (filter p xs)
      by true is more = ap (λ ys. x ∷ ys) more
      by false is more = sym (filter_none p xs (recursion_from_All _ _ (λ k d h. false_from_ne_true _ (λ passes. both_ways _ is (part 0 (suc k) d (omega arith) (omega arith) passes)))))

  -- those below do not pass, so leaving them out leaves those that pass
  none_before : (below : X → Bool) → ((x : X) → below x ≡ true → p x ≡ false) → (xs : List X) (start : ℕ) → start ≤ length xs → IsPartitionPoint (λ x. below x ≡ true) (λ x. below x ≡ false) xs start → filter p xs ≡ filter p (drop start xs)
  none_before below fails xs start inside found =
      let lower = each_of_front (λ x. below x ≡ true) xs start inside found.0 in
      let none_low : filter p (take start xs) ≡ [] = filter_none p _ (recursion_from_All _ _ (λ k d h. fails _ (lower k d h))) in
      ap (filter p) (sym (take-append-drop start xs)) ∙ filter-append p (take start xs) (drop start xs) ∙ (λ i. none_low i ++ filter p (drop start xs))

module _ {X : Type 0} (p : X → Bool) where
  pub prefix_point : (xs : List X) → IsPartitionedBy p xs → IsPartitionPoint (λ x. p x ≡ true) (λ x. p x ≡ false) xs (prefix_len p xs)
  prefix_point xs part = (
    λ k d from below. prefix_len_passes p xs k d below,
    λ k d from below. false_from_ne_true _ (λ passes. both_ways _ (prefix_len_stops p xs d (omega arith)) (part (prefix_len p xs) k d from below passes)),
  )

  pub point_after : (xs : List X) (n k : ℕ) → n ≤ length xs → IsPartitionedBy p xs → ((d : X) → p (get_or xs (n - 1) d) ≡ true) → 0 < n → IsPartitionPoint (λ x. p x ≡ true) (λ x. p x ≡ false) (drop n xs) k → k ≤ length (drop n xs) → IsPartitionPoint (λ x. p x ≡ true) (λ x. p x ≡ false) xs (n + k)
  point_after xs n k inside part last some found within = (
    λ j d from below. elim (cases_lt j n) [
      | inl early ↦ part j (n - 1) d (omega arith) (omega arith) (last d)
      | inr late ↦
          let same : n + (j - n) ≡ j = omega arith in
          ap (λ x. p x) (ap (λ i. get_or xs i d) (sym same) ∙ sym (get_or-drop n xs (j - n) d)) ∙ found.0 (j - n) d (omega arith) (omega arith)
    ],
    λ j d from below.
        let same : n + (j - n) ≡ j = omega arith in
        ap (λ x. p x) (ap (λ i. get_or xs i d) (sym same) ∙ sym (get_or-drop n xs (j - n) d)) ∙ found.1 (j - n) d (omega arith) (omega (arith, length-drop n xs)),
  )

  pub partitioned_back : (xs : List X) (n : ℕ) → IsPartitionedBy p xs → IsPartitionedBy p (drop n xs)
  partitioned_back xs n part = λ i j d le inside is.
      rw get_or-drop (part (n + i) (n + j) d (omega arith) (omega (arith, length-drop n xs)) (rw get_or-drop at is))

abbrev pub no_letter : Letter
no_letter = record { to = pos 0; from = 0; seq = 0; value = pos 0 }

below_falls : (z : ℤ) (a b : Letter) → target_cmp a b ≡ Less → int_lt b.to z ≡ true → int_lt a.to z ≡ true
below_falls z a b less is = grind (arith, ints)

pub below_partitioned : (z : ℤ) (letters : List Letter) → IsStrictlySortedBy target_cmp letters → IsPartitionedBy (λ letter. int_lt letter.to z) letters
below_partitioned z letters up = λ i j d le inside is.
    elim (cases_eq i j) [
      | inl e ↦ rw e is
      | inr other ↦ below_falls z (get_or letters i d) (get_or letters j d) (Less-from_sorted target_cmp letters i j d up (omega arith) inside) is
    ]

before_id : (id : ℕ) (letter : Letter) → int_lt letter.to (pos id) ≡ true → goes_to letter id ≡ false
before_id id letter below = grind (arith, ints)

at_id : (id : ℕ) (a b : Letter) → target_cmp a b ≡ Less → int_lt a.to (pos id) ≡ false → goes_to b id ≡ true → goes_to a id ≡ true
at_id id a b less from is = grind (arith, ints)

-- from the first letter that is not below the id on, those to it come first
id_first : (id : ℕ) (letters : List Letter) (start : ℕ) → IsStrictlySortedBy target_cmp letters → AllWithin (λ letter. int_lt letter.to (pos id) ≡ false) letters start (length letters) → IsPartitionedBy (λ letter. goes_to letter id) (drop start letters)
id_first id letters start up from = λ i j d le inside is.
    let within : start + j < length letters = omega (arith, length-drop start letters) in
    elim (cases_eq i j) [
      | inl e ↦ rw e is
      | inr other ↦ rw get_or-drop (at_id id (get_or letters (start + i) d) (get_or letters (start + j) d) (Less-from_sorted target_cmp letters (start + i) (start + j) d up (omega arith) within) (from (start + i) d (omega arith) (omega arith)) (rw get_or-drop at is))
    ]

pub letters_found : (id : ℕ) (letters : List Letter) (start : ℕ) → IsStrictlySortedBy target_cmp letters → start ≤ length letters → IsPartitionPoint (λ letter. int_lt letter.to (pos id) ≡ true) (λ letter. int_lt letter.to (pos id) ≡ false) letters start → take_while (λ letter. goes_to letter id) (drop start letters) ≡ filter (λ letter. goes_to letter id) letters
letters_found id letters start up inside found =
    front_passes (λ letter. goes_to letter id) (drop start letters) (id_first id letters start up found.1)
    ∙ sym (none_before (λ letter. goes_to letter id) (λ letter. int_lt letter.to (pos id)) (before_id id) letters start inside found)
