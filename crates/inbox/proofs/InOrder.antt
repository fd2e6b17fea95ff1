-- Distinct letters have an order: each is put to its place.
use Rattle.std.proofs.Common.{◌≡◌, List, [], ◌∷◌, false, arith, refl}
use Rattle.std.proofs.lemmas.Bool.Decides.{nat_tests}
use Rattle.std.proofs.lemmas.List.Elements.{recursion_from_All, All-from_recursion}
use Rattle.std.proofs.lemmas.List.Sorted.{All-permutation, IsPermutation-refl, IsPermutation-sym, IsPermutation-trans, IsPermutation-cons, IsPermutation-middle}
use Rattle.std.specs.List.{AllByRecursion, IsDistinct}
use Rattle.std.specs.List.Sorted.{IsPermutation, IsStrictlySortedBy}
use Rattle.std.specs.declared.cmp.Ordering.{Ordering}
use Rattle.std.specs.declared.cmp.Ordering.TheVariants.{Less, Equal, Greater}
use Rattle.inbox.specs.declared.letters.Letter.{Letter}
use Rattle.inbox.specs.Merging.{are_one, source_cmp, IsBySource}
use Rattle.inbox.proofs.Order.{source_total}

each_permuted : {X : Type 0} (P : X → Type 0) (xs ys : List X) → IsPermutation xs ys → AllByRecursion P xs → AllByRecursion P ys
each_permuted P xs ys moved all = recursion_from_All P ys (All-permutation P xs ys moved (All-from_recursion P xs all))

not_level : (a b : Letter) → source_cmp a b ≡ Equal → are_one a b ≡ false → ⊥
not_level a b level apart = grind (arith, nat_tests)

turned : (a b : Letter) → source_cmp a b ≡ Greater → source_cmp b a ≡ Less
turned a b greater = let flips = source_total.antisymm b a in cc

later_still : (a b : Letter) (letters : List Letter) → source_cmp a b ≡ Less → AllByRecursion (λ c. source_cmp b c ≡ Less) letters → AllByRecursion (λ c. source_cmp a c ≡ Less) letters
later_still a b [] less all = tt
later_still a b (c ∷ letters) less all = (source_total.trans a b c less all.0, later_still a b letters less all.1)

put : (a : Letter) (ordered : List Letter) → IsStrictlySortedBy source_cmp ordered → AllByRecursion (λ b. are_one a b ≡ false) ordered → (more : List Letter) × IsBySource (a ∷ ordered) more
unfolding IsStrictlySortedBy
put a [] up apart = (a ∷ [], record { same = IsPermutation-refl (a ∷ []); rising = (tt, tt) })
put a (b ∷ ordered) up apart = placed (source_cmp a b) refl (put a ordered up.1 apart.1)
  where
    placed : (o : Ordering) → source_cmp a b ≡ o → (more : List Letter) × IsBySource (a ∷ ordered) more → (more : List Letter) × IsBySource (a ∷ b ∷ ordered) more
    placed Less e rest = (a ∷ b ∷ ordered, record { same = IsPermutation-refl (a ∷ b ∷ ordered); rising = ((e, later_still a b ordered e up.0), up) })
    placed Equal e rest = absurd (not_level a b e apart.0)
    placed Greater e rest =
        let front : IsPermutation (a ∷ b ∷ ordered) (b ∷ a ∷ ordered) = IsPermutation-sym _ _ (IsPermutation-middle (b ∷ []) a ordered) in (
          b ∷ rest.0,
          record {
            same = IsPermutation-trans _ _ _ front (IsPermutation-cons b (a ∷ ordered) rest.0 rest.1.same);
            rising = (each_permuted (λ c. source_cmp b c ≡ Less) (a ∷ ordered) rest.0 rest.1.same (turned a b e, up.0), rest.1.rising);
          },
        )

pub in_order : (letters : List Letter) → IsDistinct are_one letters → (ordered : List Letter) × IsBySource letters ordered
unfolding IsDistinct IsStrictlySortedBy
in_order [] apart = ([], record { same = IsPermutation-refl []; rising = tt })
in_order (a ∷ letters) apart =
    let rest = in_order letters apart.1 in
    let more = put a rest.0 rest.1.rising (each_permuted (λ b. are_one a b ≡ false) letters rest.0 rest.1.same apart.0) in (
      more.0,
      record {
        same = IsPermutation-trans _ _ _ (IsPermutation-cons a letters rest.0 rest.1.same) more.1.same;
        rising = more.1.rising;
      },
    )
