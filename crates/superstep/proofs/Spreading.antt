-- What vertices left, as it lies over the parts and as it lies by rising id.
use Rattle.std.proofs.Common.{◌≡◌, ℕ, pos, Bool, true, false, List, [], ◌∷◌, map, cond, eqb, refl, ap, sym, ◌∙◌, subst, arith}
use Rattle.std.specs.List.{AllByRecursion, IsDistinct}
use Rattle.std.specs.List.Sorted.{IsPermutation, IsStrictlyIncreasing}
use Rattle.std.proofs.lemmas.Bool.{ne_eqb}
use Rattle.std.proofs.lemmas.Bool.Decides.{nat_tests}
use Rattle.std.proofs.lemmas.List.Kept.{AllPairs-from_increasing}
use Rattle.std.proofs.lemmas.List.Sorted.{IsPermutation-map, IsPermutation-sym, IsPermutation-trans}
use Rattle.std.proofs.lemmas.Map.Keys.{IsDistinct-IsPermutation, IsDistinct-from_apart}
use Rattle.semantics.specs.Call.{Outcome}
use Rattle.graph.specs.inside.Rising.{equal, rising_same}
use Rattle.superstep.specs.Tasks.{VertexOutcome}
use Rattle.superstep.specs.inside.Barrier.{left_id, left_ids}

-- ---- numbers that rise, and the same ones moved

pub apart : (numbers moved : List ℕ) → IsStrictlyIncreasing numbers → IsPermutation numbers moved → IsDistinct eqb moved
apart numbers moved rising same =
    let pairs = AllPairs-from_increasing numbers rising in
    IsDistinct-IsPermutation eqb (λ x y. grind (arith, nat_tests)) numbers moved same
    (IsDistinct-from_apart eqb numbers (λ i j d before below. let less = pairs i j d before below in ne_eqb _ _ (λ e. omega arith)))

-- ---- what the vertex with an id left

abbrev nothing : Outcome
nothing = record { value = pos 0; sends = []; contributions = []; halted = true; units = 0 }

abbrev pub outcome_at : List VertexOutcome → ℕ → Outcome
outcome_at [] id = nothing
outcome_at (one ∷ left) id = cond (eqb one.0 id) one.1 (outcome_at left id)

abbrev pub at_id : List VertexOutcome → ℕ → VertexOutcome
at_id left id = (id, outcome_at left id)

first_found : (one : VertexOutcome) (left : List VertexOutcome) → at_id (one ∷ left) one.0 ≡ one
first_found one left =
    ap (λ (b : Bool). let found : VertexOutcome = (one.0, cond b one.1 (outcome_at left one.0)) in found) (equal one.0 one.0 refl)

passed : (one : VertexOutcome) (left : List VertexOutcome) (numbers : List ℕ) → AllByRecursion (λ n. eqb one.0 n ≡ false) numbers
    → map (at_id (one ∷ left)) numbers ≡ map (at_id left) numbers
passed one left [] all = refl
passed one left (n ∷ numbers) all =
    ap (λ (b : Bool). let found : VertexOutcome = (n, cond b one.1 (outcome_at left n)) in found ∷ map (at_id (one ∷ left)) numbers) all.0
    ∙ ap (λ rest. at_id left n ∷ rest) (passed one left numbers all.1)

-- each vertex is found by its id, where no two have the same
pub all_found : (left : List VertexOutcome) → IsDistinct eqb (left_ids left) → map (at_id left) (left_ids left) ≡ left
unfolding IsDistinct
all_found [] apart = refl
all_found (one ∷ left) apart =
    ap (λ head. head ∷ map (at_id (one ∷ left)) (left_ids left)) (first_found one left)
    ∙ ap (λ rest. one ∷ rest) (passed one left (left_ids left) apart.0 ∙ all_found left apart.1)

pub ids_found : (left : List VertexOutcome) (numbers : List ℕ) → left_ids (map (at_id left) numbers) ≡ numbers
ids_found left [] = refl
ids_found left (n ∷ numbers) = ap (λ xs. n ∷ xs) (ids_found left numbers)

-- what they left, by rising id
pub found_moved : (left : List VertexOutcome) (numbers : List ℕ) → IsStrictlyIncreasing numbers → IsPermutation (left_ids left) numbers
    → IsPermutation left (map (at_id left) numbers)
found_moved left numbers rising same =
    subst (λ xs. IsPermutation xs (map (at_id left) numbers))
    (all_found left (apart numbers (left_ids left) rising (IsPermutation-sym _ _ same)))
    (IsPermutation-map (at_id left) (left_ids left) numbers same)

pub found_in_order : (left ordered : List VertexOutcome) → IsStrictlyIncreasing (left_ids ordered) → IsPermutation left ordered
    → map (at_id left) (left_ids ordered) ≡ ordered
found_in_order left ordered rising same =
    let moved = found_moved left (left_ids ordered) rising (IsPermutation-map left_id left ordered same) in
    rising_same left_id (map (at_id left) (left_ids ordered)) ordered
    (subst (λ xs. IsStrictlyIncreasing xs) (sym (ids_found left (left_ids ordered))) rising) rising
    (IsPermutation-trans _ _ _ (IsPermutation-sym _ _ moved) same)

pub distinct_ids : (left ordered : List VertexOutcome) → IsStrictlyIncreasing (left_ids ordered) → IsPermutation left ordered → IsDistinct eqb (left_ids left)
distinct_ids left ordered rising same =
    apart (left_ids ordered) (left_ids left) rising (IsPermutation-map left_id ordered left (IsPermutation-sym _ _ same))
