-- One order of letters, and the concatenation by source.
use Rattle.std.proofs.Common.{◌≡◌, ℕ, List, [], ◌∷◌, ◌++◌, Contains, arith, inl, inr, ◌⊎◌, cond, not, refl, sym, ap}
use Rattle.std.proofs.lemmas.Cmp.{tied_itself}
use Rattle.std.proofs.lemmas.List.{map-append}
use Rattle.std.proofs.lemmas.List.Elements.{filter-append, All-contains, Contains-append_cases, Contains-get_or, Contains-append_right, Contains-push_cases}
use Rattle.std.proofs.lemmas.List.Sorted.{Contains-permutation, IsPermutation-sym, IsPermutation-trans, sum_by-IsPermutation}
use Rattle.std.proofs.lemmas.Map.Keys.{sorted_tail}
use Rattle.std.proofs.lemmas.Map.Views.{All-after_first}
use Rattle.std.specs.Cmp.{IsTotalOrder}
use Rattle.std.specs.List.{flat_map, list_any}
use Rattle.std.specs.List.Sorted.{IsPermutation, IsStrictlySortedBy}
use Rattle.std.specs.declared.cmp.Ordering.{Ordering}
use Rattle.std.specs.declared.cmp.Ordering.TheVariants.{Less}
use Rattle.inbox.specs.declared.letters.Letter.{Letter}
use Rattle.inbox.specs.Merging.{IsBySource, dropped_of, goes_to, inbox_of}
use Rattle.inbox.proofs.Order.{source_total}

-- what a list contains stands at its head or in its tail
pub contained : {X : Type 0} (x : X) (xs : List X) (z : X) → Contains (x ∷ xs) z → (x ≡ z) ⊎ Contains xs z
contained x xs z h = elim (Contains-append_cases (x ∷ []) xs z h) [ inl alone ↦ elim (Contains-push_cases [] x z alone) [ inl none ↦ absurd (omega (arith, none.1)) | inr is ↦ inl is ] | inr later ↦ inr later ]

-- of two letters that both stand in the other's list, neither is later
heads : {X : Type 0} {R : X → X → Ordering} (o : IsTotalOrder R) (x y : X) → (y ≡ x) ⊎ (R y x ≡ Less) → (x ≡ y) ⊎ (R x y ≡ Less) → x ≡ y
heads o x y (inl e) other = sym e
heads o x y (inr less) (inl e) = e
heads o x y (inr less) (inr less') = let flips = o.antisymm x y in cc

member_later : {X : Type 0} (R : X → X → Ordering) (x : X) (xs : List X) (z : X) → IsStrictlySortedBy R (x ∷ xs) → Contains xs z → R x z ≡ Less
member_later R x xs z up h = All-contains (λ q. R x q ≡ Less) xs z (All-after_first R x xs up) h

member_rest : {X : Type 0} {R : X → X → Ordering} (o : IsTotalOrder R) (x y : X) (xs ys : List X) (z : X) → x ≡ y → IsStrictlySortedBy R (x ∷ xs) → Contains xs z → (y ≡ z) ⊎ Contains ys z → Contains ys z
member_rest {R = R} o x y xs ys z e up h (inl is) = let later = member_later R x xs z up h in let same = tied_itself o x in cc
member_rest o x y xs ys z e up h (inr inside) = inside

pub head_inside : {X : Type 0} (x : X) (xs : List X) → Contains (x ∷ xs) x
head_inside x xs = Contains-get_or (x ∷ xs) 0 x (omega arith)

-- two lists that rise and contain the same are the same
pub same_sorted : {X : Type 0} {R : X → X → Ordering} (o : IsTotalOrder R) (xs ys : List X) → IsStrictlySortedBy R xs → IsStrictlySortedBy R ys → ((z : X) → Contains xs z → Contains ys z) → ((z : X) → Contains ys z → Contains xs z) → xs ≡ ys
same_sorted o [] [] up up' to from = refl
same_sorted o [] (y ∷ ys) up up' to from = absurd (omega (arith, (from y (head_inside y ys)).1))
same_sorted o (x ∷ xs) [] up up' to from = absurd (omega (arith, (to x (head_inside x xs)).1))
same_sorted {R = R} o (x ∷ xs) (y ∷ ys) up up' to from =
    let e : x ≡ y = heads o x y
    (elim (contained y ys x (to x (head_inside x xs))) [ inl is ↦ inl is | inr later ↦ inr (member_later R y ys x up' later) ])
    (elim (contained x xs y (from y (head_inside y ys))) [ inl is ↦ inl is | inr later ↦ inr (member_later R x xs y up later) ]) in
    let rest : xs ≡ ys = same_sorted o xs ys (sorted_tail R x xs up) (sorted_tail R y ys up')
    (λ z h. member_rest o x y xs ys z e up h (contained y ys z (to z (Contains-append_right (x ∷ []) xs z h))))
    (λ z h. member_rest o y x ys xs z (sym e) up' h (contained x xs z (from z (Contains-append_right (y ∷ []) ys z h)))) in
    cc

pub one_order : (letters shuffled ordered other : List Letter) → IsPermutation letters shuffled → IsBySource letters ordered → IsBySource shuffled other → ordered ≡ other
one_order letters shuffled ordered other moved by by' =
    let there : IsPermutation ordered other = IsPermutation-trans _ _ _ (IsPermutation-trans _ _ _ (IsPermutation-sym _ _ by.same) moved) by'.same in
    same_sorted source_total ordered other by.rising by'.rising (λ z. Contains-permutation _ _ z there) (λ z. Contains-permutation _ _ z (IsPermutation-sym _ _ there))

pub same_dropped : (letters shuffled : List Letter) (ids : List ℕ) → IsPermutation letters shuffled → dropped_of shuffled ids ≡ dropped_of letters ids
same_dropped letters shuffled ids moved = sum_by-IsPermutation (λ letter. cond (not (list_any (goes_to letter) ids)) 1 0) letters shuffled moved

pub inbox_of-flat_map : (sources : List ℕ) (sent_by : ℕ → List Letter) (id : ℕ) → inbox_of (flat_map sent_by sources) id ≡ flat_map (λ source. inbox_of (sent_by source) id) sources
inbox_of-flat_map [] sent_by id = refl
inbox_of-flat_map (source ∷ sources) sent_by id = simp (filter-append, map-append) (ap (λ rest. inbox_of (sent_by source) id ++ rest) (inbox_of-flat_map sources sent_by id))
