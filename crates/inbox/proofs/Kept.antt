-- The letters to one id are the same ones, in the same order, among those of its set of targets by target and among all by source.
use Rattle.std.proofs.Common.{◌≡◌, ℕ, pos, Bool, true, false, List, [], ◌∷◌, Contains, filter, arith, inl, inr, refl}
use Rattle.std.proofs.lemmas.Bool.Decides.{Decides-int_eq, nat_tests}
use Rattle.std.proofs.lemmas.Int.{ints}
use Rattle.std.proofs.lemmas.List.Elements.{All-contains, All-contains_itself, All-filter, filter_passes, recursion_from_All, Contains-append_right}
use Rattle.std.proofs.lemmas.List.Kept.{IsStrictlySortedBy-filter}
use Rattle.std.proofs.lemmas.List.Sorted.{Contains-permutation, IsPermutation-sym}
use Rattle.std.specs.List.{AllByRecursion}
use Rattle.std.specs.List.Sorted.{IsPermutation, IsStrictlySortedBy}
use Rattle.std.specs.declared.cmp.Ordering.TheVariants.{Less}
use Rattle.inbox.specs.declared.letters.Letter.{Letter}
use Rattle.inbox.specs.declared.shares.TargetSet.{TargetSet}
use Rattle.inbox.specs.Merging.{IsBySource, goes_to, source_cmp}
use Rattle.inbox.specs.inside.Filing.{AreSomeOf}
use Rattle.inbox.specs.inside.Shares.{has, goes_into}
use Rattle.inbox.specs.inside.Targets.{IsByTarget, target_cmp}
use Rattle.inbox.proofs.OneOrder.{contained, head_inside, same_sorted}
use Rattle.inbox.proofs.Order.{source_total}

module _ {X : Type 0} (p : X → Bool) where
  from_filter : (xs : List X) (x : X) → Contains (filter p xs) x → Contains xs x
  from_filter xs x h = All-contains (Contains xs) (filter p xs) x (All-filter p (Contains xs) xs (All-contains_itself xs)) h

  passes : (xs : List X) (x : X) → Contains (filter p xs) x → p x ≡ true
  passes xs x h = All-contains (λ x. p x ≡ true) (filter p xs) x (filter_passes p xs) h

  into_filter : (xs : List X) (x : X) → Contains xs x → p x ≡ true → Contains (filter p xs) x
  into_filter [] x h is = absurd (omega (arith, h.1))
  into_filter (y ∷ ys) x h is = elim (contained y ys x h) [
    | inl e ↦ rw (e, is) (head_inside x (filter p ys))
    | inr later ↦ more (p y) refl (into_filter ys x later is)
  ]
    where
      more : (b : Bool) → p y ≡ b → Contains (filter p ys) x → Contains (filter p (y ∷ ys)) x
      more true e inside = rw e (Contains-append_right (y ∷ []) (filter p ys) x inside)
      more false e inside = rw e inside

-- a letter to an id goes into a set of targets that has the id
goes_inside : (target_set : TargetSet) (id : ℕ) (letter : Letter) → has target_set id ≡ true → goes_to letter id ≡ true → goes_into target_set letter ≡ true
goes_inside target_set id letter inside goes =
    let to : letter.to ≡ pos id = (Decides-int_eq letter.to (pos id)).0 goes in
    rw to inside

-- of two letters to one id
by_source : (id : ℕ) (a b : Letter) → goes_to a id ≡ true → goes_to b id ≡ true → target_cmp a b ≡ Less → source_cmp a b ≡ Less
by_source id a b one other less = grind (arith, nat_tests, ints)

later_by_source : (id : ℕ) (a : Letter) (letters : List Letter) → goes_to a id ≡ true → AllByRecursion (λ b. goes_to b id ≡ true) letters → AllByRecursion (λ b. target_cmp a b ≡ Less) letters → AllByRecursion (λ b. source_cmp a b ≡ Less) letters
later_by_source id a [] one all up = tt
later_by_source id a (b ∷ letters) one all up = (by_source id a b one all.0 up.0, later_by_source id a letters one all.1 up.1)

all_by_source : (id : ℕ) (letters : List Letter) → AllByRecursion (λ b. goes_to b id ≡ true) letters → IsStrictlySortedBy target_cmp letters → IsStrictlySortedBy source_cmp letters
unfolding IsStrictlySortedBy
all_by_source id [] all up = tt
all_by_source id (a ∷ letters) all up = (later_by_source id a letters all.0 all.1 up.0, all_by_source id letters all.1 up.1)

-- the letters to an id, in a set of targets that has it and among all
pub same_letters : (letters sorted ordered : List Letter) (target_set : TargetSet) (id : ℕ) → has target_set id ≡ true → IsByTarget (filter (goes_into target_set) letters) sorted → IsBySource letters ordered → filter (λ letter. goes_to letter id) sorted ≡ filter (λ letter. goes_to letter id) ordered
same_letters letters sorted ordered target_set id inside by by' =
    let mine = λ (letter : Letter). goes_to letter id in
    let within = goes_into target_set in
    let rising : IsStrictlySortedBy source_cmp (filter mine sorted) = all_by_source id (filter mine sorted) (recursion_from_All _ _ (filter_passes mine sorted)) (IsStrictlySortedBy-filter target_cmp mine sorted by.rising) in
    let to = λ (z : Letter) (h : Contains (filter mine sorted) z).
    let here = Contains-permutation _ _ z (IsPermutation-sym _ _ by.same) (from_filter mine sorted z h) in
    into_filter mine ordered z (Contains-permutation _ _ z by'.same (from_filter within letters z here)) (passes mine sorted z h) in
    let from = λ (z : Letter) (h : Contains (filter mine ordered) z).
    let goes = passes mine ordered z h in
    let here = into_filter within letters z (Contains-permutation _ _ z (IsPermutation-sym _ _ by'.same) (from_filter mine ordered z h)) (goes_inside target_set id z inside goes) in
    into_filter mine sorted z (Contains-permutation _ _ z by.same here) goes in
    same_sorted source_total (filter mine sorted) (filter mine ordered) rising (IsStrictlySortedBy-filter source_cmp mine ordered by'.rising) to from

-- all letters
pub some_all : (letters : List Letter) (target_set : TargetSet) → AreSomeOf letters target_set letters
some_all letters target_set = record { among = λ z h. h; all = λ z h goes. h }

-- those of a set of targets, in any order
pub some_within : (letters some : List Letter) (target_set : TargetSet) → IsPermutation (filter (goes_into target_set) letters) some → AreSomeOf letters target_set some
some_within letters some target_set same =
    let within = goes_into target_set in
    record {
      among = λ z h. from_filter within letters z (Contains-permutation _ _ z (IsPermutation-sym _ _ same) h);
      all = λ z h goes. Contains-permutation _ _ z same (into_filter within letters z h goes);
    }

-- the letters to an id, among those of a set of targets that has it and among all, each by source
pub same_in_order : (letters some sent ordered : List Letter) (target_set : TargetSet) (id : ℕ) → has target_set id ≡ true → AreSomeOf letters target_set some → IsBySource some sent → IsBySource letters ordered → filter (λ letter. goes_to letter id) sent ≡ filter (λ letter. goes_to letter id) ordered
same_in_order letters some sent ordered target_set id inside are by by' =
    let mine = λ (letter : Letter). goes_to letter id in
    let to = λ (z : Letter) (h : Contains (filter mine sent) z).
    let here = Contains-permutation _ _ z (IsPermutation-sym _ _ by.same) (from_filter mine sent z h) in
    into_filter mine ordered z (Contains-permutation _ _ z by'.same (are.among z here)) (passes mine sent z h) in
    let from = λ (z : Letter) (h : Contains (filter mine ordered) z).
    let goes = passes mine ordered z h in
    let here = are.all z (Contains-permutation _ _ z (IsPermutation-sym _ _ by'.same) (from_filter mine ordered z h)) (goes_inside target_set id z inside goes) in
    into_filter mine sent z (Contains-permutation _ _ z by.same here) goes in
    same_sorted source_total (filter mine sent) (filter mine ordered) (IsStrictlySortedBy-filter source_cmp mine sent by.rising) (IsStrictlySortedBy-filter source_cmp mine ordered by'.rising) to from
