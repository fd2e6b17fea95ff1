-- The values of aggregators do not depend on the order and the parts in which the numbers are given.
use Rattle.std.proofs.Common.{◌≡◌, ◌≢◌, ℕ, ℤ, pos, zero, suc, ◌<◌, ◌≤◌, Bool, true, false, cond, List, [], ◌∷◌, ◌++◌, append_assoc, append-nil, length, get_or, set, map, filter, eqb, FitsSigned, ◌⊎◌, inl, inr, ⊎_elim, refl, ap, sym, ◌∙◌, subst, arith, length-set, get_or-set_same, get_or-set_other, set-set, le_of_suc-le-suc}
use Rattle.std.specs.Int.{w64}
use Rattle.std.specs.List.{All, flat_map, fold, swap}
use Rattle.std.specs.List.Sorted.{IsPermutation}
use Rattle.std.proofs.Math.Seq.{set_comm, set_out}
use Rattle.std.proofs.lemmas.Bool.{cases_lt}
use Rattle.std.proofs.lemmas.Int.{ints}
use Rattle.std.proofs.lemmas.List.Concat.{flat_map-append}
use Rattle.std.proofs.lemmas.List.Elements.{All-head, All-set, All-tail}
use Rattle.std.proofs.lemmas.List.FromFn.{fill_by_all, get_or-map-range_with_len, length-map-range_with_len}
use Rattle.std.proofs.lemmas.List.Sorted.{IsPermutation-append_comm, IsPermutation-append_left, IsPermutation-append_right, IsPermutation-keeps, IsPermutation-refl, IsPermutation-trans}
use Rattle.std.proofs.lemmas.List.Sums.{fold-append}
use borrow.Author.Tests.{eqb-false, eqb-true}
use Rattle.semantics.specs.Call.{Outcome}
use Rattle.verified.specs.Aggregators.{aggregator_starts}
use Rattle.superstep.specs.Folds.{aggregated, combined, give}
use Rattle.superstep.specs.Superstep.{contributions_of}
use Rattle.superstep.specs.inside.Uniting.{given_at, united}
use Rattle.superstep.proofs.AggregatorFolds.{combined_assoc, combined_comm, combined_fits, combined_start, combined_turns}

same_or_not : (a b : ℕ) → (a ≡ b) ⊎ (a ≢ b)
same_or_not a b = by (eqb a b) refl
  where
    by : (t : Bool) → eqb a b ≡ t → (a ≡ b) ⊎ (a ≢ b)
    by true e = inl (eqb-true a b e)
    by false e = inr (eqb-false a b e)

-- ---- one number

length_give : (aggregators : List ℤ) (given : ℕ × ℤ) → length (give aggregators given) ≡ length aggregators
length_give aggregators given = length-set aggregators given.0 _

-- the aggregator that the number goes to, and each other
give_here : (aggregators : List ℤ) (given : ℕ × ℤ) → given.0 < length aggregators
    → get_or (give aggregators given) given.0 (pos 0) ≡ combined given.0 (get_or aggregators given.0 (pos 0)) given.1
give_here aggregators given below = get_or-set_same aggregators given.0 _ (pos 0) below

give_elsewhere : (aggregators : List ℤ) (given : ℕ × ℤ) (aggregator : ℕ) → aggregator ≢ given.0 → get_or (give aggregators given) aggregator (pos 0) ≡ get_or aggregators aggregator (pos 0)
give_elsewhere aggregators given aggregator apart = get_or-set_other aggregators given.0 aggregator _ (pos 0) apart

twice_same : (aggregators : List ℤ) (aggregator : ℕ) (x y : ℤ) → aggregator < length aggregators
    → give (give aggregators (aggregator, x)) (aggregator, y) ≡ set aggregators aggregator (combined aggregator (combined aggregator (get_or aggregators aggregator (pos 0)) x) y)
twice_same aggregators aggregator x y below =
    ap (λ old. set (give aggregators (aggregator, x)) aggregator (combined aggregator old y)) (give_here aggregators (aggregator, x) below)
    ∙ set-set aggregators aggregator _ _

twice_apart : (aggregators : List ℤ) (a b : ℕ × ℤ) → b.0 ≢ a.0
    → give (give aggregators a) b ≡ set (give aggregators a) b.0 (combined b.0 (get_or aggregators b.0 (pos 0)) b.1)
twice_apart aggregators a b apart = ap (λ old. set (give aggregators a) b.0 (combined b.0 old b.1)) (give_elsewhere aggregators a b.0 apart)

same_turns : (aggregators : List ℤ) (aggregator : ℕ) (x y : ℤ) → give (give aggregators (aggregator, x)) (aggregator, y) ≡ give (give aggregators (aggregator, y)) (aggregator, x)
same_turns aggregators aggregator x y =
    ⊎_elim
    (λ (below : aggregator < length aggregators).
    twice_same aggregators aggregator x y below
    ∙ ap (set aggregators aggregator) (combined_turns aggregator (get_or aggregators aggregator (pos 0)) x y)
    ∙ sym (twice_same aggregators aggregator y x below))
    (λ (past : length aggregators ≤ aggregator).
    let out : (z : ℤ) → give aggregators (aggregator, z) ≡ aggregators = λ z. set_out aggregators aggregator _ past in
    ap (λ l. give l (aggregator, y)) (out x) ∙ out y ∙ sym (ap (λ l. give l (aggregator, x)) (out y) ∙ out x))
    (cases_lt aggregator (length aggregators))

-- two numbers may be given in either order
pub give_turns : (aggregators : List ℤ) (a b : ℕ × ℤ) → give (give aggregators a) b ≡ give (give aggregators b) a
give_turns aggregators a b =
    ⊎_elim
    (λ (same : b.0 ≡ a.0). subst (λ aggregator. give (give aggregators a) (aggregator, b.1) ≡ give (give aggregators (aggregator, b.1)) a) (sym same) (same_turns aggregators a.0 a.1 b.1))
    (λ (apart : b.0 ≢ a.0).
    twice_apart aggregators a b apart
    ∙ set_comm aggregators a.0 b.0 _ _ (λ e. apart (sym e))
    ∙ sym (twice_apart aggregators b a (λ e. apart (sym e))))
    (same_or_not b.0 a.0)

-- ---- many numbers, in any order

-- the first number takes a later one's place
given_later : (aggregators : List ℤ) (xs : List (ℕ × ℤ)) (i : ℕ) (x d : ℕ × ℤ) → i < length xs
    → fold give aggregators (get_or xs i d ∷ set xs i x) ≡ fold give aggregators (x ∷ xs)
given_later aggregators [] i x d below = absurd (omega arith)
given_later aggregators (y ∷ xs) zero x d below = ap (λ l. fold give l xs) (give_turns aggregators y x)
given_later aggregators (y ∷ xs) (suc i) x d below =
    let z = get_or xs i d in
    ap (λ l. fold give l (set xs i x)) (give_turns aggregators z y)
    ∙ given_later (give aggregators y) xs i x d (le_of_suc-le-suc below)
    ∙ ap (λ l. fold give l xs) (give_turns aggregators y x)

given_swapped : (aggregators : List ℤ) (xs : List (ℕ × ℤ)) (i j : ℕ) (d : ℕ × ℤ) → i < length xs → j < length xs
    → fold give aggregators (set (set xs i (get_or xs j d)) j (get_or xs i d)) ≡ fold give aggregators xs
given_swapped aggregators [] i j d first second = absurd (omega arith)
given_swapped aggregators (x ∷ xs) zero zero d first second = refl
given_swapped aggregators (x ∷ xs) zero (suc j) d first second = given_later aggregators xs j x d (le_of_suc-le-suc second)
given_swapped aggregators (x ∷ xs) (suc i) zero d first second = given_later aggregators xs i x d (le_of_suc-le-suc first)
given_swapped aggregators (x ∷ xs) (suc i) (suc j) d first second =
    given_swapped (give aggregators x) xs i j d (le_of_suc-le-suc first) (le_of_suc-le-suc second)

given_exchanged : (aggregators : List ℤ) (xs : List (ℕ × ℤ)) (i j : ℕ) → i < length xs → j < length xs → fold give aggregators (swap xs i j) ≡ fold give aggregators xs
given_exchanged aggregators [] i j first second = refl
given_exchanged aggregators (x ∷ xs) i j first second = given_swapped aggregators (x ∷ xs) i j x first second

-- the order in which numbers are given makes no difference
pub given_permuted : (aggregators : List ℤ) (a b : List (ℕ × ℤ)) → IsPermutation a b → fold give aggregators a ≡ fold give aggregators b
given_permuted aggregators a b same =
    IsPermutation-keeps a (λ l. fold give aggregators a ≡ fold give aggregators l) refl
    (λ l i j first second before. before ∙ sym (given_exchanged aggregators l i j first second)) b same

pub aggregated_permuted : (a b : List (ℕ × ℤ)) → IsPermutation a b → aggregated a ≡ aggregated b
aggregated_permuted a b same = given_permuted aggregator_starts a b same

-- ---- how many aggregators, and their ranges

pub length_given : (aggregators : List ℤ) (contributions : List (ℕ × ℤ)) → length (fold give aggregators contributions) ≡ length aggregators
length_given aggregators [] = refl
length_given aggregators (given ∷ contributions) = length_given (give aggregators given) contributions ∙ length_give aggregators given

pub length_aggregated : (contributions : List (ℕ × ℤ)) → length (aggregated contributions) ≡ 8
length_aggregated contributions = length_given aggregator_starts contributions

aggregator_fits : (aggregators : List ℤ) (aggregator : ℕ) → All (FitsSigned w64) aggregators → FitsSigned w64 (get_or aggregators aggregator (pos 0))
aggregator_fits [] aggregator fits = omega (arith, ints)
aggregator_fits (x ∷ aggregators) zero fits = All-head (FitsSigned w64) x aggregators fits
aggregator_fits (x ∷ aggregators) (suc aggregator) fits = aggregator_fits aggregators aggregator (All-tail (FitsSigned w64) x aggregators fits)

give_fits : (aggregators : List ℤ) (given : ℕ × ℤ) → FitsSigned w64 given.1 → All (FitsSigned w64) aggregators → All (FitsSigned w64) (give aggregators given)
give_fits aggregators given one fits =
    All-set (FitsSigned w64) aggregators given.0 _ (combined_fits given.0 _ given.1 (aggregator_fits aggregators given.0 fits) one) fits

pub given_fits : (aggregators : List ℤ) (contributions : List (ℕ × ℤ)) → All (λ (given : ℕ × ℤ). FitsSigned w64 given.1) contributions
    → All (FitsSigned w64) aggregators → All (FitsSigned w64) (fold give aggregators contributions)
given_fits aggregators [] each fits = fits
given_fits aggregators (given ∷ contributions) each fits =
    given_fits (give aggregators given) contributions (All-tail (λ (one : ℕ × ℤ). FitsSigned w64 one.1) given contributions each)
    (give_fits aggregators given (All-head (λ (one : ℕ × ℤ). FitsSigned w64 one.1) given contributions each) fits)

pub starts_fit : All (FitsSigned w64) aggregator_starts
starts_fit = λ k d below. aggregator_at k d below
  where
    aggregator_at : (k : ℕ) (d : ℤ) → k < 8 → FitsSigned w64 (get_or aggregator_starts k d)
    aggregator_at zero d below = omega (arith, ints)
    aggregator_at (suc zero) d below = omega (arith, ints)
    aggregator_at (suc (suc zero)) d below = omega (arith, ints)
    aggregator_at (suc (suc (suc zero))) d below = omega (arith, ints)
    aggregator_at (suc (suc (suc (suc zero)))) d below = omega (arith, ints)
    aggregator_at (suc (suc (suc (suc (suc zero))))) d below = omega (arith, ints)
    aggregator_at (suc (suc (suc (suc (suc (suc zero)))))) d below = omega (arith, ints)
    aggregator_at (suc (suc (suc (suc (suc (suc (suc zero))))))) d below = omega (arith, ints)
    aggregator_at (suc (suc (suc (suc (suc (suc (suc (suc k)))))))) d below = absurd (omega arith)

-- where each number that is given fits 64 bits, each aggregator does
pub aggregated_fits : (contributions : List (ℕ × ℤ)) → All (λ (given : ℕ × ℤ). FitsSigned w64 given.1) contributions
    → All (FitsSigned w64) (aggregated contributions)
aggregated_fits contributions each = given_fits aggregator_starts contributions each starts_fit

-- ---- parts

pub length_united : (one other : List ℤ) → length (united one other) ≡ 8
unfolding united
length_united one other = length-map-range_with_len (λ aggregator. combined aggregator (get_or one aggregator (pos 0)) (get_or other aggregator (pos 0))) 0 8

pub united_at : (one other : List ℤ) (aggregator : ℕ) → aggregator < 8
    → get_or (united one other) aggregator (pos 0) ≡ combined aggregator (get_or one aggregator (pos 0)) (get_or other aggregator (pos 0))
unfolding united
united_at one other aggregator below =
    get_or-map-range_with_len (λ k. combined k (get_or one k (pos 0)) (get_or other k (pos 0))) 0 8 aggregator aggregator (pos 0) below (omega arith)

-- a list that has this at each aggregator is the union
pub united_is : (one other aggregators : List ℤ) → length aggregators ≡ 8
    → ((aggregator : ℕ) → aggregator < 8 → get_or aggregators aggregator (pos 0) ≡ combined aggregator (get_or one aggregator (pos 0)) (get_or other aggregator (pos 0)))
    → aggregators ≡ united one other
unfolding united
united_is one other aggregators long each = fill_by_all (λ k. combined k (get_or one k (pos 0)) (get_or other k (pos 0))) aggregators 8 (pos 0) long each

pub united_comm : (one other : List ℤ) → united one other ≡ united other one
united_comm one other =
    united_is other one (united one other) (length_united one other)
    (λ aggregator below. united_at one other aggregator below ∙ combined_comm aggregator (get_or one aggregator (pos 0)) (get_or other aggregator (pos 0)))

pub united_assoc : (one other third : List ℤ) → united (united one other) third ≡ united one (united other third)
united_assoc one other third =
    united_is one (united other third) (united (united one other) third) (length_united (united one other) third)
    (λ aggregator below.
    let a = get_or one aggregator (pos 0) in
    let b = get_or other aggregator (pos 0) in
    let c = get_or third aggregator (pos 0) in
    united_at (united one other) third aggregator below
    ∙ ap (λ x. combined aggregator x c) (united_at one other aggregator below)
    ∙ combined_assoc aggregator a b c
    ∙ ap (combined aggregator a) (sym (united_at other third aggregator below)))

-- one number more in the first part
united_give_at : (one other : List ℤ) (given : ℕ × ℤ) → length one ≡ 8 → (aggregator : ℕ) → aggregator < 8
    → get_or (give (united one other) given) aggregator (pos 0) ≡ combined aggregator (get_or (give one given) aggregator (pos 0)) (get_or other aggregator (pos 0))
united_give_at one other given long aggregator below =
    ⊎_elim
    (λ (same : aggregator ≡ given.0).
    let here : given.0 < 8 = omega arith in
    let a = get_or one given.0 (pos 0) in
    let b = get_or other given.0 (pos 0) in
    subst (λ k. get_or (give (united one other) given) k (pos 0) ≡ combined k (get_or (give one given) k (pos 0)) (get_or other k (pos 0))) (sym same)
    (give_here (united one other) given (omega (arith, length_united one other))
    ∙ ap (λ x. combined given.0 x given.1) (united_at one other given.0 here)
    ∙ combined_turns given.0 a b given.1
    ∙ ap (λ x. combined given.0 x b) (sym (give_here one given (omega arith)))))
    (λ (apart : aggregator ≢ given.0).
    give_elsewhere (united one other) given aggregator apart
    ∙ united_at one other aggregator below
    ∙ ap (λ x. combined aggregator x (get_or other aggregator (pos 0))) (sym (give_elsewhere one given aggregator apart)))
    (same_or_not aggregator given.0)

united_give : (one other : List ℤ) (given : ℕ × ℤ) → length one ≡ 8 → give (united one other) given ≡ united (give one given) other
united_give one other given long =
    united_is (give one given) other (give (united one other) given) (length_give (united one other) given ∙ length_united one other)
    (united_give_at one other given long)

-- more numbers in one part
pub united_given : (one other : List ℤ) (contributions : List (ℕ × ℤ)) → length one ≡ 8
    → fold give (united one other) contributions ≡ united (fold give one contributions) other
united_given one other [] long = refl
united_given one other (given ∷ contributions) long =
    ap (λ l. fold give l contributions) (united_give one other given long)
    ∙ united_given (give one given) other contributions (length_give one given ∙ long)

-- to unite with aggregators that nobody gave anything to changes nothing
starts_united : united aggregator_starts aggregator_starts ≡ aggregator_starts
unfolding united
starts_united = refl

pub united_with_starts : (contributions : List (ℕ × ℤ)) → united (aggregated contributions) aggregator_starts ≡ aggregated contributions
united_with_starts contributions =
    sym (united_given aggregator_starts aggregator_starts contributions refl) ∙ ap (λ l. fold give l contributions) starts_united

-- what two parts give is aggregated as each is, and then united
pub aggregated_joined : (a b : List (ℕ × ℤ)) → aggregated (a ++ b) ≡ united (aggregated a) (aggregated b)
aggregated_joined a b =
    fold-append give aggregator_starts a b
    ∙ ap (λ l. fold give l b) (sym (united_with_starts a) ∙ united_comm (aggregated a) aggregator_starts)
    ∙ united_given aggregator_starts (aggregated a) b refl
    ∙ united_comm (aggregated b) (aggregated a)

-- aggregators of 64 bits, united with aggregators that nobody gave anything to, and numbers given to them
pub united_starts : (aggregators : List ℤ) → length aggregators ≡ 8 → All (FitsSigned w64) aggregators → united aggregators aggregator_starts ≡ aggregators
united_starts aggregators long fits =
    sym (united_is aggregators aggregator_starts aggregators long (λ aggregator below. sym (combined_start aggregator (get_or aggregators aggregator (pos 0)) below (aggregator_fits aggregators aggregator fits))))

pub given_united : (aggregators : List ℤ) (contributions : List (ℕ × ℤ)) → length aggregators ≡ 8 → All (FitsSigned w64) aggregators
    → fold give aggregators contributions ≡ united aggregators (aggregated contributions)
given_united aggregators contributions long fits =
    ap (λ l. fold give l contributions) (sym (united_starts aggregators long fits) ∙ united_comm aggregators aggregator_starts)
    ∙ united_given aggregator_starts aggregators contributions refl
    ∙ united_comm (aggregated contributions) aggregators

-- what many parts give is aggregated as each is, and then united, part after part
module _ {X : Type 0} (gives : X → List (ℕ × ℤ)) where
  parts_onward : (before : List (ℕ × ℤ)) (parts : List X)
      → aggregated (before ++ flat_map gives parts) ≡ fold (λ aggregators part. united aggregators (aggregated (gives part))) (aggregated before) parts
  parts_onward before [] = ap aggregated (append-nil before)
  parts_onward before (part ∷ parts) =
      ap aggregated (sym (append_assoc before (gives part) (flat_map gives parts)))
      ∙ parts_onward (before ++ gives part) parts
      ∙ ap (λ aggregators. fold (λ old one. united old (aggregated (gives one))) aggregators parts) (aggregated_joined before (gives part))

  pub aggregated_parts : (parts : List X) → aggregated (flat_map gives parts) ≡ fold (λ aggregators part. united aggregators (aggregated (gives part))) aggregator_starts parts
  aggregated_parts parts = parts_onward [] parts

-- ---- an aggregator alone

given_aggregator : (aggregators : List ℤ) (contributions : List (ℕ × ℤ)) (aggregator : ℕ) → aggregator < length aggregators
    → get_or (fold give aggregators contributions) aggregator (pos 0) ≡ fold (combined aggregator) (get_or aggregators aggregator (pos 0)) (given_at aggregator contributions)
given_aggregator aggregators [] aggregator below = refl
given_aggregator aggregators (given ∷ contributions) aggregator below = given_aggregator (give aggregators given) contributions aggregator (omega (arith, length_give aggregators given)) ∙ by (eqb given.0 aggregator) refl
  where
    by : (t : Bool) → eqb given.0 aggregator ≡ t
        → fold (combined aggregator) (get_or (give aggregators given) aggregator (pos 0)) (given_at aggregator contributions)
        ≡ fold (combined aggregator) (get_or aggregators aggregator (pos 0)) (map (λ (one : ℕ × ℤ). one.1) (cond t (given ∷ filter (λ (one : ℕ × ℤ). eqb one.0 aggregator) contributions) (filter (λ (one : ℕ × ℤ). eqb one.0 aggregator) contributions)))
    by true e =
        let same = eqb-true given.0 aggregator e in
        ap (λ old. fold (combined aggregator) old (given_at aggregator contributions))
        (subst (λ k. get_or (give aggregators given) k (pos 0) ≡ combined k (get_or aggregators k (pos 0)) given.1) same (give_here aggregators given (omega arith)))
    by false e = ap (λ old. fold (combined aggregator) old (given_at aggregator contributions)) (give_elsewhere aggregators given aggregator (λ k. eqb-false given.0 aggregator e (sym k)))

-- each aggregator folds the numbers that were given to it, in order
pub aggregated_at : (contributions : List (ℕ × ℤ)) (aggregator : ℕ) → aggregator < 8
    → get_or (aggregated contributions) aggregator (pos 0) ≡ fold (combined aggregator) (get_or aggregator_starts aggregator (pos 0)) (given_at aggregator contributions)
aggregated_at contributions aggregator below = given_aggregator aggregator_starts contributions aggregator below

-- ---- what vertices leave, in any order

module _ {X Y : Type 0} (gives : X → List Y) where
  ahead : (xs ys rest : List Y) → IsPermutation (xs ++ (ys ++ rest)) (ys ++ (xs ++ rest))
  ahead xs ys rest =
      subst (λ l. IsPermutation l (ys ++ (xs ++ rest))) (append_assoc xs ys rest)
      (subst (IsPermutation ((xs ++ ys) ++ rest)) (append_assoc ys xs rest) (IsPermutation-append_left rest (xs ++ ys) (ys ++ xs) (IsPermutation-append_comm xs ys)))

  all_later : (xs : List X) (i : ℕ) (x d : X) → i < length xs → IsPermutation (flat_map gives (x ∷ xs)) (flat_map gives (get_or xs i d ∷ set xs i x))
  all_later [] i x d below = absurd (omega arith)
  all_later (y ∷ xs) zero x d below = ahead (gives x) (gives y) (flat_map gives xs)
  all_later (y ∷ xs) (suc i) x d below =
      let z = get_or xs i d in
      IsPermutation-trans _ _ _ (ahead (gives x) (gives y) (flat_map gives xs))
      (IsPermutation-trans _ _ _ (IsPermutation-append_right (gives y) _ _ (all_later xs i x d (le_of_suc-le-suc below)))
      (ahead (gives y) (gives z) (flat_map gives (set xs i x))))

  all_swapped : (xs : List X) (i j : ℕ) (d : X) → i < length xs → j < length xs
      → IsPermutation (flat_map gives xs) (flat_map gives (set (set xs i (get_or xs j d)) j (get_or xs i d)))
  all_swapped [] i j d first second = absurd (omega arith)
  all_swapped (x ∷ xs) zero zero d first second = IsPermutation-refl _
  all_swapped (x ∷ xs) zero (suc j) d first second = all_later xs j x d (le_of_suc-le-suc second)
  all_swapped (x ∷ xs) (suc i) zero d first second = all_later xs i x d (le_of_suc-le-suc first)
  all_swapped (x ∷ xs) (suc i) (suc j) d first second =
      IsPermutation-append_right (gives x) _ _ (all_swapped xs i j d (le_of_suc-le-suc first) (le_of_suc-le-suc second))

  all_exchanged : (xs : List X) (i j : ℕ) → i < length xs → j < length xs → IsPermutation (flat_map gives xs) (flat_map gives (swap xs i j))
  all_exchanged [] i j first second = IsPermutation-refl _
  all_exchanged (x ∷ xs) i j first second = all_swapped (x ∷ xs) i j x first second

  -- what the elements of a list give, in another order of them
  pub all_permuted : (a b : List X) → IsPermutation a b → IsPermutation (flat_map gives a) (flat_map gives b)
  all_permuted a b same =
      IsPermutation-keeps a (λ l. IsPermutation (flat_map gives a) (flat_map gives l)) (IsPermutation-refl _)
      (λ l i j first second before. IsPermutation-trans _ _ _ before (all_exchanged l i j first second)) b same

-- what vertices leave is aggregated alike in any order of them
pub contributions_permuted : (a b : List Outcome) → IsPermutation a b → aggregated (contributions_of a) ≡ aggregated (contributions_of b)
contributions_permuted a b same = aggregated_permuted _ _ (all_permuted (λ (outcome : Outcome). outcome.contributions) a b same)

-- what the vertices of two parts leave
pub contributions_joined : (a b : List Outcome) → aggregated (contributions_of (a ++ b)) ≡ united (aggregated (contributions_of a)) (aggregated (contributions_of b))
contributions_joined a b =
    ap aggregated (flat_map-append (λ (outcome : Outcome). outcome.contributions) a b) ∙ aggregated_joined (contributions_of a) (contributions_of b)
