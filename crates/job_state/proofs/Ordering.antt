-- A list put in the order of a key has the same elements, in that order; and lists that are the parts of their elements.
use Rattle.std.proofs.Common.{◌≡◌, ℕ, zero, suc, ◌<◌, ◌≤◌, ◌+◌, ◌%◌, eqb, filter, Bool, true, false, cond, List, [], ◌∷◌, ◌++◌, map, length, get_or, nat_lt, refl, ap, sym, ◌∙◌, arith, inl, inr, ◌⊎◌}
use Rattle.std.specs.List.{AllByRecursion, list_any, range_with_len}
use Rattle.std.specs.List.Sorted.{IsNonDecreasing, IsPermutation, IsStrictlyIncreasing}
use Rattle.std.proofs.lemmas.Bool.Decides.{nat_tests}
use Rattle.std.proofs.lemmas.List.{append-nil, length-map, map-id, same_lists}
use Rattle.std.proofs.lemmas.List.Elements.{filter-append}
use Rattle.std.proofs.lemmas.List.FromFn.{length-map-range_with_len}
use Rattle.std.proofs.lemmas.List.Sorted.{IsPermutation-append_comm, IsPermutation-append_left, IsPermutation-cons, IsPermutation-refl, IsPermutation-trans, list_any-IsPermutation}
use Rattle.graph.specs.Partition.{joined, part_by, parts_by}
use Rattle.graph.specs.inside.Partitioned.{part_at}
use Rattle.graph.specs.inside.Rising.{Rises, order_is, rises_from}
use Rattle.job_state.specs.Ordering.{by_key, put_in}

-- ---- the same elements

swapped : {X : Type 0} (x y : X) (ys : List X) → IsPermutation (x ∷ y ∷ ys) (y ∷ x ∷ ys)
swapped x y ys = IsPermutation-append_left ys (x ∷ y ∷ []) (y ∷ x ∷ []) (IsPermutation-append_comm (x ∷ []) (y ∷ []))

put_same : {X : Type 0} (key : X → ℕ) (x : X) (xs : List X) → IsPermutation (x ∷ xs) (put_in key x xs)
put_same key x [] = IsPermutation-refl (x ∷ [])
put_same key x (y ∷ ys) = choose (nat_lt (key y) (key x)) (put_same key x ys)
  where
    choose : (b : Bool) → IsPermutation (x ∷ ys) (put_in key x ys) → IsPermutation (x ∷ y ∷ ys) (cond b (y ∷ put_in key x ys) (x ∷ y ∷ ys))
    choose true later = IsPermutation-trans _ _ _ (swapped x y ys) (IsPermutation-cons y (x ∷ ys) (put_in key x ys) later)
    choose false later = IsPermutation-refl (x ∷ y ∷ ys)

pub by_key_same : {X : Type 0} (key : X → ℕ) (xs : List X) → IsPermutation xs (by_key key xs)
by_key_same key [] = IsPermutation-refl []
by_key_same key (x ∷ xs) = IsPermutation-trans _ _ _ (IsPermutation-cons x xs (by_key key xs) (by_key_same key xs)) (put_same key x (by_key key xs))

-- ---- in order

abbrev Climbs : {X : Type 0} → (X → ℕ) → List X → Type 0
Climbs key [] = Unit {0}
Climbs key (x ∷ xs) = AllByRecursion (λ y. key x ≤ key y) xs × Climbs key xs

more : {X : Type 0} (key : X → ℕ) (m n : ℕ) (xs : List X) → m ≤ n → AllByRecursion (λ y. n ≤ key y) xs → AllByRecursion (λ y. m ≤ key y) xs
more key m n [] less all = tt
more key m n (x ∷ xs) less all = (omega (arith, all.0), more key m n xs less all.1)

put_above : {X : Type 0} (key : X → ℕ) (n : ℕ) (x : X) (xs : List X) → n ≤ key x → AllByRecursion (λ y. n ≤ key y) xs → AllByRecursion (λ y. n ≤ key y) (put_in key x xs)
put_above key n x [] less all = (less, tt)
put_above key n x (y ∷ ys) less all = choose (nat_lt (key y) (key x)) (put_above key n x ys less all.1)
  where
    choose : (b : Bool) → AllByRecursion (λ z. n ≤ key z) (put_in key x ys) → AllByRecursion (λ z. n ≤ key z) (cond b (y ∷ put_in key x ys) (x ∷ y ∷ ys))
    choose true later = (all.0, later)
    choose false later = (less, all)

put_climbs : {X : Type 0} (key : X → ℕ) (x : X) (xs : List X) → Climbs key xs → Climbs key (put_in key x xs)
put_climbs key x [] up = (tt, tt)
put_climbs key x (y ∷ ys) up = choose (nat_lt (key y) (key x)) refl (put_climbs key x ys up.1)
  where
    choose : (b : Bool) → nat_lt (key y) (key x) ≡ b → Climbs key (put_in key x ys) → Climbs key (cond b (y ∷ put_in key x ys) (x ∷ y ∷ ys))
    choose true is later = let less : key y ≤ key x = grind (arith, nat_tests) in (put_above key (key y) x ys less up.0, later)
    choose false is later = let less : key x ≤ key y = grind (arith, nat_tests) in ((less, more key (key x) (key y) ys less up.0), up)

climbs : {X : Type 0} (key : X → ℕ) (xs : List X) → Climbs key (by_key key xs)
climbs key [] = tt
climbs key (x ∷ xs) = put_climbs key x (by_key key xs) (climbs key xs)

at_least : {X : Type 0} (key : X → ℕ) (n : ℕ) (xs : List X) (j d : ℕ) → AllByRecursion (λ y. n ≤ key y) xs → j < length (map key xs) → n ≤ get_or (map key xs) j d
at_least key n [] j d all below = absurd (omega arith)
at_least key n (x ∷ xs) zero d all below = all.0
at_least key n (x ∷ xs) (suc j) d all below = at_least key n xs j d all.1 (omega arith)

never_falls : {X : Type 0} (key : X → ℕ) (xs : List X) → Climbs key xs → IsNonDecreasing (map key xs)
never_falls key [] up i j d before below = absurd (omega arith)
never_falls key (x ∷ xs) up zero zero d before below = omega arith
never_falls key (x ∷ xs) up zero (suc j) d before below = at_least key (key x) xs j d up.0 (omega arith)
never_falls key (x ∷ xs) up (suc i) zero d before below = absurd (omega arith)
never_falls key (x ∷ xs) up (suc i) (suc j) d before below = never_falls key xs up.1 i j d (omega arith) (omega arith)

pub by_key_sorted : {X : Type 0} (key : X → ℕ) (xs : List X) → IsNonDecreasing (map key (by_key key xs))
by_key_sorted key xs = never_falls key (by_key key xs) (climbs key xs)

-- ---- the elements that pass a test stand in the same order

put_first : {X : Type 0} (key : X → ℕ) (x : X) (xs : List X) → AllByRecursion (λ y. key x ≤ key y) xs → put_in key x xs ≡ x ∷ xs
put_first key x [] all = refl
put_first key x (y ∷ ys) all =
    let not_less : nat_lt (key y) (key x) ≡ false = let least = all.0 in grind (arith, nat_tests) in
    ap (λ (b : Bool). cond b (y ∷ put_in key x ys) (x ∷ y ∷ ys)) not_less

above_filter : {X : Type 0} (key : X → ℕ) (p : X → Bool) (n : ℕ) (xs : List X) → AllByRecursion (λ y. n ≤ key y) xs → AllByRecursion (λ y. n ≤ key y) (filter p xs)
above_filter key p n [] all = tt
above_filter key p n (x ∷ xs) all = choose (p x) (above_filter key p n xs all.1)
  where
    choose : (b : Bool) → AllByRecursion (λ y. n ≤ key y) (filter p xs) → AllByRecursion (λ y. n ≤ key y) (cond b (x ∷ filter p xs) (filter p xs))
    choose true later = (all.0, later)
    choose false later = later

put_filter : {X : Type 0} (key : X → ℕ) (p : X → Bool) (x : X) (xs : List X) → Climbs key xs
    → filter p (put_in key x xs) ≡ cond (p x) (put_in key x (filter p xs)) (filter p xs)
put_filter key p x [] up = refl
put_filter {X = X} key p x (y ∷ ys) up = choose (nat_lt (key y) (key x)) refl (put_filter key p x ys up.1)
  where
    over : (a b : Bool) → nat_lt (key y) (key x) ≡ true
        → cond a (y ∷ cond b (put_in key x (filter p ys)) (filter p ys)) (cond b (put_in key x (filter p ys)) (filter p ys))
        ≡ cond b (put_in key x (cond a (y ∷ filter p ys) (filter p ys))) (cond a (y ∷ filter p ys) (filter p ys))
    over true true is = sym (ap (λ (c : Bool). cond c (y ∷ put_in key x (filter p ys)) (x ∷ y ∷ filter p ys)) is)
    over true false is = refl
    over false true is = refl
    over false false is = refl

    first : (a : Bool) → AllByRecursion (λ z. key x ≤ key z) (cond a (y ∷ filter p ys) (filter p ys))
        → cond (p x) (x ∷ cond a (y ∷ filter p ys) (filter p ys)) (cond a (y ∷ filter p ys) (filter p ys))
        ≡ cond (p x) (put_in key x (cond a (y ∷ filter p ys) (filter p ys))) (cond a (y ∷ filter p ys) (filter p ys))
    first a all = ap (λ (zs : List X). cond (p x) zs (cond a (y ∷ filter p ys) (filter p ys))) (sym (put_first key x (cond a (y ∷ filter p ys) (filter p ys)) all))

    choose : (c : Bool) → nat_lt (key y) (key x) ≡ c → filter p (put_in key x ys) ≡ cond (p x) (put_in key x (filter p ys)) (filter p ys)
        → filter p (cond c (y ∷ put_in key x ys) (x ∷ y ∷ ys)) ≡ cond (p x) (put_in key x (filter p (y ∷ ys))) (filter p (y ∷ ys))
    choose true is later = ap (λ (zs : List X). cond (p y) (y ∷ zs) zs) later ∙ over (p y) (p x) is
    choose false is later =
        let less : key x ≤ key y = grind (arith, nat_tests) in
        first (p y) (above_filter key p (key x) (y ∷ ys) (less, more key (key x) (key y) ys less up.0))

pub by_key_filter : {X : Type 0} (key : X → ℕ) (p : X → Bool) (xs : List X) → filter p (by_key key xs) ≡ by_key key (filter p xs)
by_key_filter key p [] = refl
by_key_filter {X = X} key p (x ∷ xs) =
    put_filter key p x (by_key key xs) (climbs key xs)
    ∙ ap (λ (zs : List X). cond (p x) (put_in key x zs) zs) (by_key_filter key p xs)
    ∙ choose (p x)
  where
    choose : (b : Bool) → cond b (put_in key x (by_key key (filter p xs))) (by_key key (filter p xs)) ≡ by_key key (cond b (x ∷ filter p xs) (filter p xs))
    choose true = refl
    choose false = refl

pub by_key_climbs : {X : Type 0} (key : X → ℕ) (xs : List X) → Climbs key xs → by_key key xs ≡ xs
by_key_climbs key [] up = refl
by_key_climbs {X = X} key (x ∷ xs) up = ap (λ (zs : List X). put_in key x zs) (by_key_climbs key xs up.1) ∙ put_first key x xs up.0

-- ---- whether any passes a test

pub any_by_key : {X : Type 0} (key : X → ℕ) (p : X → Bool) (xs : List X) → list_any p (by_key key xs) ≡ list_any p xs
any_by_key key p xs = sym (list_any-IsPermutation p xs (by_key key xs) (by_key_same key xs))

-- ---- the elements that rise

-- put in order, elements are that one of their orders in which the keys rise
pub by_key_is : {X : Type 0} (key : X → ℕ) (xs rising : List X) → IsPermutation xs rising → IsStrictlyIncreasing (map key rising) → by_key key xs ≡ rising
by_key_is key xs rising same rise = order_is key xs (by_key key xs) rising (by_key_same key xs) (by_key_sorted key xs) same rise

-- ---- parts

-- each part's elements have the remainder of its number, counted from here
abbrev AreApart : {X : Type 0} → (X → ℕ) → (count from : ℕ) → List (List X) → Type 0
AreApart key count from [] = Unit {0}
AreApart key count from (xs ∷ parts) = AllByRecursion (λ x. key x % count ≡ from) xs × AreApart key count (suc from) parts

taken_whole : {X : Type 0} (key : X → ℕ) (count part : ℕ) (xs : List X) → AllByRecursion (λ x. key x % count ≡ part) xs → filter (λ x. eqb (key x % count) part) xs ≡ xs
taken_whole key count part [] all = refl
taken_whole key count part (x ∷ xs) all =
    ap (λ b. cond b (x ∷ filter (λ x. eqb (key x % count) part) xs) (filter (λ x. eqb (key x % count) part) xs)) (is_true (key x % count) part all.0)
    ∙ ap (λ ys. x ∷ ys) (taken_whole key count part xs all.1)
  where
    is_true : (m n : ℕ) → m ≡ n → eqb m n ≡ true
    is_true m n same = grind (arith, nat_tests)

none_taken : {X : Type 0} (key : X → ℕ) (count part other : ℕ) (xs : List X) → part < other ⊎ other < part → AllByRecursion (λ x. key x % count ≡ other) xs → filter (λ x. eqb (key x % count) part) xs ≡ []
none_taken key count part other [] apart all = refl
none_taken key count part other (x ∷ xs) apart all =
    ap (λ b. cond b (x ∷ filter (λ x. eqb (key x % count) part) xs) (filter (λ x. eqb (key x % count) part) xs)) (is_false (key x % count) all.0 apart)
    ∙ none_taken key count part other xs apart all.1
  where
    is_false : (m : ℕ) → m ≡ other → part < other ⊎ other < part → eqb m part ≡ false
    is_false m same (inl less) = grind (arith, nat_tests)
    is_false m same (inr more) = grind (arith, nat_tests)

none_in_later : {X : Type 0} (key : X → ℕ) (count part from : ℕ) (parts : List (List X)) → part < from → AreApart key count from parts → filter (λ x. eqb (key x % count) part) (joined parts) ≡ []
none_in_later key count part from [] before apart = refl
none_in_later key count part from (xs ∷ parts) before apart =
    filter-append (λ x. eqb (key x % count) part) xs (joined parts)
    ∙ ap (λ ys. ys ++ filter (λ x. eqb (key x % count) part) (joined parts)) (none_taken key count part from xs (inl before) apart.0)
    ∙ none_in_later key count part (suc from) parts (omega arith) apart.1

part_taken : {X : Type 0} (key : X → ℕ) (count from k : ℕ) (parts : List (List X)) (d : List X) → k < length parts → AreApart key count from parts
    → filter (λ x. eqb (key x % count) (from + k)) (joined parts) ≡ get_or parts k d
part_taken key count from k [] d below apart = absurd (omega arith)
part_taken key count from zero (xs ∷ parts) d below apart =
    let here : from + zero ≡ from = omega arith in
    ap (λ n. filter (λ x. eqb (key x % count) n) (xs ++ joined parts)) here
    ∙ filter-append (λ x. eqb (key x % count) from) xs (joined parts)
    ∙ ap (λ ys. filter (λ x. eqb (key x % count) from) xs ++ ys) (none_in_later key count from (suc from) parts (omega arith) apart.1)
    ∙ append-nil (filter (λ x. eqb (key x % count) from) xs)
    ∙ taken_whole key count from xs apart.0
part_taken key count from (suc k) (xs ∷ parts) d below apart =
    let next : from + suc k ≡ suc from + k = omega arith in
    filter-append (λ x. eqb (key x % count) (from + suc k)) xs (joined parts)
    ∙ ap (λ ys. ys ++ filter (λ x. eqb (key x % count) (from + suc k)) (joined parts)) (none_taken key count (from + suc k) from xs (inr (omega arith)) apart.0)
    ∙ ap (λ n. filter (λ x. eqb (key x % count) n) (joined parts)) next
    ∙ part_taken key count (suc from) k parts d (omega (arith, below)) apart.1

-- a part that climbs is that part of all, put in order
part_in_order : {X : Type 0} (key : X → ℕ) (count k : ℕ) (parts : List (List X)) (d : List X) → k < length parts → AreApart key count 0 parts
    → Climbs key (get_or parts k d) → part_by key count (by_key key (joined parts)) k ≡ get_or parts k d
part_in_order key count k parts d below apart up =
    let from_zero : k ≡ 0 + k = omega arith in
    by_key_filter key (λ x. eqb (key x % count) k) (joined parts)
    ∙ ap (λ n. by_key key (filter (λ x. eqb (key x % count) n) (joined parts))) from_zero
    ∙ ap (by_key key) (part_taken key count 0 k parts d below apart)
    ∙ by_key_climbs key (get_or parts k d) up

-- ---- lists whose keys are the parts of numbers that rise

one_apart : (count from : ℕ) (numbers : List ℕ) → AllByRecursion (λ n. n % count ≡ from) (part_by (λ n. n) count numbers from)
one_apart count from [] = tt
one_apart count from (n ∷ numbers) = choose (eqb (n % count) from) refl (one_apart count from numbers)
  where
    choose : (b : Bool) → eqb (n % count) from ≡ b → AllByRecursion (λ m. m % count ≡ from) (part_by (λ m. m) count numbers from)
        → AllByRecursion (λ m. m % count ≡ from) (cond b (n ∷ part_by (λ m. m) count numbers from) (part_by (λ m. m) count numbers from))
    choose true is later = let same : n % count ≡ from = grind (arith, nat_tests) in (same, later)
    choose false is later = later

of_keys : {X : Type 0} (key : X → ℕ) (P : ℕ → Type 0) (xs : List X) → AllByRecursion P (map key xs) → AllByRecursion (λ x. P (key x)) xs
of_keys key P [] all = tt
of_keys key P (x ∷ xs) all = (all.0, of_keys key P xs all.1)

filter_climbs : (p : ℕ → Bool) (numbers : List ℕ) → Climbs (λ n. n) numbers → Climbs (λ n. n) (filter p numbers)
filter_climbs p [] up = tt
filter_climbs p (n ∷ numbers) up = choose (p n) (filter_climbs p numbers up.1)
  where
    choose : (b : Bool) → Climbs (λ m. m) (filter p numbers) → Climbs (λ m. m) (cond b (n ∷ filter p numbers) (filter p numbers))
    choose true later = (above_filter (λ m. m) p n numbers up.0, later)
    choose false later = later

keys_climb : {X : Type 0} (key : X → ℕ) (xs : List X) → Climbs (λ n. n) (map key xs) → Climbs key xs
keys_climb key [] up = tt
keys_climb key (x ∷ xs) up = (of_keys key (λ n. key x ≤ n) xs up.0, keys_climb key xs up.1)

at_most : (n : ℕ) (numbers : List ℕ) → AllByRecursion (λ m. n < m) numbers → AllByRecursion (λ m. n ≤ m) numbers
at_most n [] all = tt
at_most n (m ∷ numbers) all = (omega (arith, all.0), at_most n numbers all.1)

rising_climb : (numbers : List ℕ) → Rises (λ n. n) numbers → Climbs (λ n. n) numbers
rising_climb [] up = tt
rising_climb (n ∷ numbers) up = (at_most n numbers up.0, rising_climb numbers up.1)

-- What is so of each list whose keys are a part of numbers that rise.
record AreParts {X : Type 0} (key : X → ℕ) (count from : ℕ) (parts : List (List X)) : Type 0 where
  apart : AreApart key count from parts
  climb : AllByRecursion (Climbs key) parts

are_parts : {X : Type 0} (key : X → ℕ) (count from many : ℕ) (numbers : List ℕ) (parts : List (List X)) → Climbs (λ n. n) numbers
    → map (map key) parts ≡ map (part_by (λ n. n) count numbers) (range_with_len from many) → AreParts key count from parts
are_parts key count from many numbers [] up same = record { apart = tt; climb = tt }
are_parts key count from zero numbers (xs ∷ parts) up same = absurd (omega (arith, ap length same))
are_parts key count from (suc many) numbers (xs ∷ parts) up same =
    let first : map key xs ≡ part_by (λ n. n) count numbers from = cc in
    let next : from + 1 ≡ suc from = omega arith in
    let behind : map (map key) parts ≡ map (part_by (λ n. n) count numbers) (range_with_len (from + 1) many) = cc in
    let later = behind ∙ ap (λ n. map (part_by (λ n. n) count numbers) (range_with_len n many)) next in
    let rest = are_parts key count (suc from) many numbers parts up later in
    record {
      apart = (of_keys key (λ n. n % count ≡ from) xs (rw first (one_apart count from numbers)), rest.apart);
      climb = (keys_climb key xs (rw first (filter_climbs (λ n. eqb (n % count) from) numbers up)), rest.climb);
    }

all_at : {X : Type 0} (P : X → Type 0) (xs : List X) (k : ℕ) (d : X) → k < length xs → AllByRecursion P xs → P (get_or xs k d)
all_at P [] k d below all = absurd (omega arith)
all_at P (x ∷ xs) zero d below all = all.0
all_at P (x ∷ xs) (suc k) d below all = all_at P xs k d (omega arith) all.1

-- lists whose keys are the parts of numbers that rise are the parts of their elements, put in order
pub parts_are_kept : {X : Type 0} (key : X → ℕ) (count : ℕ) (numbers : List ℕ) (parts : List (List X)) → IsStrictlyIncreasing numbers
    → map (map key) parts ≡ parts_by (λ n. n) count numbers → parts ≡ parts_by key (length parts) (by_key key (joined parts))
parts_are_kept key count numbers parts rise same =
    let up = rising_climb numbers (rises_from (λ n. n) numbers (rw (map-id numbers) rise)) in
    let are = are_parts key count 0 count numbers parts up same in
    let many : length parts ≡ count = sym (length-map parts (map key)) ∙ ap length same ∙ length-map-range_with_len (part_by (λ n. n) count numbers) 0 count in
    same_lists parts (parts_by key (length parts) (by_key key (joined parts)))
    (sym (length-map-range_with_len (part_by key (length parts) (by_key key (joined parts))) 0 (length parts)))
    (λ k d below.
    sym (part_in_order key count k parts d below are.apart (all_at (Climbs key) parts k d below are.climb))
    ∙ ap (λ n. part_by key n (by_key key (joined parts)) k) (sym many)
    ∙ sym (part_at key (length parts) (by_key key (joined parts)) k d below))

-- ---- one part

taken_all : (numbers : List ℕ) → part_by (λ n. n) 1 numbers 0 ≡ numbers
taken_all numbers = taken_whole (λ n. n) 1 0 numbers (nothing_left numbers)
  where
    nothing_left : (numbers : List ℕ) → AllByRecursion (λ n. n % 1 ≡ 0) numbers
    nothing_left [] = tt
    nothing_left (n ∷ numbers) = (omega arith, nothing_left numbers)

pub one_part_is : {X : Type 0} (key : X → ℕ) (xs : List X) → IsStrictlyIncreasing (map key xs) → by_key key (joined (xs ∷ [])) ≡ xs
one_part_is key xs rise = ap (by_key key) (append-nil xs) ∙ by_key_is key xs xs (IsPermutation-refl xs) rise

pub one_part_is_kept : {X : Type 0} (key : X → ℕ) (xs : List X) → IsStrictlyIncreasing (map key xs)
    → (xs ∷ []) ≡ parts_by key 1 (by_key key (joined (xs ∷ [])))
one_part_is_kept key xs rise = parts_are_kept key 1 (map key xs) (xs ∷ []) rise (ap (λ numbers. numbers ∷ []) (sym (taken_all (map key xs))))
