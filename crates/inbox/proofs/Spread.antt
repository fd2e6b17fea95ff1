-- What sources send is distinct, and in order by source, however the sources lie.
use Rattle.std.proofs.Common.{◌≡◌, ℕ, Bool, false, List, [], ◌∷◌, ◌++◌, Contains, arith, inl, inr, refl, ap, ◌∙◌, subst}
use Rattle.std.proofs.lemmas.Bool.Decides.{nat_tests}
use Rattle.std.proofs.lemmas.List.Concat.{flat_map-append}
use Rattle.std.proofs.lemmas.List.Elements.{recursion_from_All, Contains-append_left, Contains-append_right, Contains-append_cases}
use Rattle.std.proofs.lemmas.List.Sorted.{Contains-permutation, IsPermutation-sym}
use Rattle.std.proofs.lemmas.Map.Keys.{IsDistinct-from_sorted, IsDistinct-IsPermutation}
use Rattle.std.specs.List.{AllByRecursion, IsDistinct, flat_map}
use Rattle.std.specs.List.Sorted.{IsPermutation, IsStrictlySortedBy}
use Rattle.std.specs.Ordering.{nat_cmp, eq_by_cmp}
use Rattle.std.specs.Prelude.{nat_eq}
use Rattle.inbox.specs.declared.letters.Letter.{Letter}
use Rattle.inbox.specs.Merging.{are_one, source_cmp, AreSent, IsBySource}
use Rattle.inbox.proofs.Concatenation.{concatenated, each_append, each_weaker}
use Rattle.inbox.proofs.InOrder.{in_order}
use Rattle.inbox.proofs.OneOrder.{contained, same_sorted}
use Rattle.inbox.proofs.Order.{source_total}

module _ {X Y : Type 0} (f : X → List Y) where
  from_flat_map : (xs : List X) (y : Y) → Contains (flat_map f xs) y → (x : X) × Contains xs x × Contains (f x) y
  from_flat_map [] y h = absurd (omega (arith, h.1))
  from_flat_map (x ∷ xs) y h = elim (Contains-append_cases (f x) (flat_map f xs) y h) [
    | inl here ↦ (x, Contains-append_left (x ∷ []) xs x (0, omega arith, refl), here)
    | inr later ↦ let rest = from_flat_map xs y later in (rest.0, Contains-append_right (x ∷ []) xs rest.0 rest.1, rest.2)
  ]

  into_flat_map : (xs : List X) (x : X) (y : Y) → Contains xs x → Contains (f x) y → Contains (flat_map f xs) y
  into_flat_map [] x y h inside = absurd (omega (arith, h.1))
  into_flat_map (z ∷ xs) x y h inside = elim (contained z xs x h) [
    | inl e ↦ Contains-append_left (f z) (flat_map f xs) y (rw e inside)
    | inr later ↦ Contains-append_right (f z) (flat_map f xs) y (into_flat_map xs x y later inside)
  ]

  -- lists of the same items give the same
  flat_map_alike : (xs ys : List X) (y : Y) → IsPermutation xs ys → Contains (flat_map f xs) y → Contains (flat_map f ys) y
  flat_map_alike xs ys y moved h =
      let from = from_flat_map xs y h in
      into_flat_map ys from.0 y (Contains-permutation xs ys from.0 moved from.1) from.2

distinct_append : {X : Type 0} (e : X → X → Bool) (xs ys : List X) → IsDistinct e xs → IsDistinct e ys → AllByRecursion (λ x. AllByRecursion (λ y. e x y ≡ false) ys) xs → IsDistinct e (xs ++ ys)
unfolding IsDistinct
distinct_append e [] ys apart apart' across = apart'
distinct_append e (x ∷ xs) ys apart apart' across = (each_append (λ y. e x y ≡ false) xs ys apart.0 across.0, distinct_append e xs ys apart.1 apart' across.1)

distinct_weaker : {X : Type 0} (e e' : X → X → Bool) → ((x y : X) → e x y ≡ false → e' x y ≡ false) → (xs : List X) → IsDistinct e xs → IsDistinct e' xs
unfolding IsDistinct
distinct_weaker e e' gives [] apart = tt
distinct_weaker e e' gives (x ∷ xs) apart = (each_weaker (λ y. e x y ≡ false) (λ y. e' x y ≡ false) (gives x) xs apart.0, distinct_weaker e e' gives xs apart.1)

other_number : (a b : Letter) → eq_by_cmp (λ a b. nat_cmp a.seq b.seq) a b ≡ false → are_one a b ≡ false
other_number a b apart = grind (arith, nat_tests)

other_source : (a b : Letter) (one other : ℕ) → nat_eq one other ≡ false → a.from ≡ one → b.from ≡ other → are_one a b ≡ false
other_source a b one other apart is is' = grind (arith, nat_tests)

module _ (sent_by : ℕ → List Letter) (sent : AreSent sent_by) where
  of_one : (source : ℕ) → AllByRecursion (λ letter. letter.from ≡ source) (sent_by source)
  of_one source = recursion_from_All _ _ (sent.own source)

  from_others : (a : Letter) (one : ℕ) (others : List ℕ) → a.from ≡ one → AllByRecursion (λ other. nat_eq one other ≡ false) others → AllByRecursion (λ b. are_one a b ≡ false) (flat_map sent_by others)
  from_others a one [] is apart = tt
  from_others a one (other ∷ others) is apart =
      each_append (λ b. are_one a b ≡ false) (sent_by other) (flat_map sent_by others)
      (each_weaker (λ b. b.from ≡ other) (λ b. are_one a b ≡ false) (λ b is'. other_source a b one other apart.0 is is') (sent_by other) (of_one other))
      (from_others a one others is apart.1)

  pub distinct_sent : (sources : List ℕ) → IsDistinct nat_eq sources → IsDistinct are_one (flat_map sent_by sources)
  unfolding IsDistinct
  distinct_sent [] apart = tt
  distinct_sent (source ∷ sources) apart =
      distinct_append are_one (sent_by source) (flat_map sent_by sources)
      (distinct_weaker _ are_one other_number (sent_by source) (IsDistinct-from_sorted _ (sent_by source) (sent.numbered source)))
      (distinct_sent sources apart.1)
      (each_weaker (λ a. a.from ≡ source) (λ a. AllByRecursion (λ b. are_one a b ≡ false) (flat_map sent_by sources)) (λ a is. from_others a source sources is apart.0) (sent_by source) (of_one source))

  sources_apart : (sources spread : List ℕ) → IsStrictlySortedBy nat_cmp sources → IsPermutation sources spread → IsDistinct nat_eq spread
  sources_apart sources spread up moved =
      IsDistinct-IsPermutation nat_eq (λ x y. grind (arith, nat_tests)) sources spread moved
      (distinct_weaker (eq_by_cmp nat_cmp) nat_eq (λ x y apart. grind (arith, nat_tests)) sources (IsDistinct-from_sorted nat_cmp sources up))

  pub spread_distinct : (sources spread : List ℕ) → IsStrictlySortedBy nat_cmp sources → IsPermutation sources spread → IsDistinct are_one (flat_map sent_by spread)
  spread_distinct sources spread up moved = distinct_sent spread (sources_apart sources spread up moved)

  pub spread_ordered : (sources spread : List ℕ) → IsStrictlySortedBy nat_cmp sources → IsPermutation sources spread → IsBySource (flat_map sent_by spread) (flat_map sent_by sources)
  spread_ordered sources spread up moved =
      let all = flat_map sent_by spread in
      let rising : IsStrictlySortedBy source_cmp (flat_map sent_by sources) = concatenated sources sent_by up sent.own sent.numbered in
      let found = in_order all (spread_distinct sources spread up moved) in
      let to = λ (z : Letter) (h : Contains found.0 z). flat_map_alike sent_by spread sources z (IsPermutation-sym _ _ moved) (Contains-permutation _ _ z (IsPermutation-sym _ _ found.1.same) h) in
      let from = λ (z : Letter) (h : Contains (flat_map sent_by sources) z). Contains-permutation _ _ z found.1.same (flat_map_alike sent_by sources spread z moved h) in
      subst (IsBySource all) (same_sorted source_total found.0 (flat_map sent_by sources) found.1.rising rising to from) found.1

pub flat_map-parts : {X Y Z : Type 0} (f : Y → List Z) (g : X → List Y) (xs : List X) → flat_map f (flat_map g xs) ≡ flat_map (λ x. flat_map f (g x)) xs
flat_map-parts f g [] = refl
flat_map-parts f g (x ∷ xs) = flat_map-append f (g x) (flat_map g xs) ∙ ap (λ rest. flat_map f (g x) ++ rest) (flat_map-parts f g xs)
