-- A sort by source and number puts letters that differ in these by source.
use Rattle.std.proofs.Common.{◌≡◌, ◌+◌, ◌<◌, ℕ, false, List, [], ◌∷◌, map, length, get_or, arith}
use Rattle.std.proofs.lemmas.Bool.Decides.{nat_tests}
use Rattle.std.proofs.lemmas.Cmp.{then_total, on_total, nat_cmp_total}
use Rattle.std.proofs.lemmas.List.{get_or-map, length-map}
use Rattle.std.proofs.lemmas.Map.Keys.{sorted_from_all_adjacent, apart_from_distinct}
use Rattle.std.specs.Cmp.{IsTotalOrder}
use Rattle.std.specs.List.{IsDistinct}
use Rattle.std.specs.List.Sorted.{IsSortedBy, IsStrictlySortedBy}
use Rattle.std.specs.Ordering.{is_lt}
use Rattle.std.specs.declared.cmp.Ordering.TheVariants.{Less}
use Rattle.inbox.specs.declared.letters.Letter.{Letter}
use Rattle.inbox.specs.Merging.{are_one, source_cmp}

pub source_total : IsTotalOrder source_cmp
source_total = then_total (on_total (λ letter. letter.from) nat_cmp_total) (on_total (λ letter. letter.seq) nat_cmp_total)

pub before : (a b : Letter) → is_lt (source_cmp b a) ≡ false → are_one a b ≡ false → source_cmp a b ≡ Less
before a b late apart = grind (arith, nat_tests)

-- neighbours rise
adjacent : {X : Type 0} (letter_of : X → Letter) (xs : List X) (d : X) (e : Letter) → IsSortedBy (λ x y. is_lt (source_cmp (letter_of x) (letter_of y))) xs → IsDistinct are_one (map letter_of xs) → (k : ℕ) → k + 1 < length (map letter_of xs) → source_cmp (get_or (map letter_of xs) k e) (get_or (map letter_of xs) (k + 1) e) ≡ Less
adjacent letter_of xs d e up apart k h =
    let inside : k + 1 < length xs = rw length-map at h in
    let here : get_or (map letter_of xs) k e ≡ letter_of (get_or xs k d) = get_or-map letter_of xs k d e (omega arith) in
    let next : get_or (map letter_of xs) (k + 1) e ≡ letter_of (get_or xs (k + 1) d) = get_or-map letter_of xs (k + 1) d e inside in
    before (get_or (map letter_of xs) k e) (get_or (map letter_of xs) (k + 1) e) (rw (here, next) (up k d (omega arith) inside)) (apart_from_distinct are_one _ k (k + 1) e apart (omega arith) h)

pub rises : {X : Type 0} (letter_of : X → Letter) (xs : List X) → IsSortedBy (λ x y. is_lt (source_cmp (letter_of x) (letter_of y))) xs → IsDistinct are_one (map letter_of xs) → IsStrictlySortedBy source_cmp (map letter_of xs)
unfolding IsStrictlySortedBy
rises letter_of [] up apart = tt
rises letter_of (x ∷ xs) up apart =
    sorted_from_all_adjacent source_total (map letter_of (x ∷ xs)) (letter_of x) (λ k h. adjacent letter_of (x ∷ xs) x (letter_of x) up apart k h)

pub are_one-flips : (a b : Letter) → are_one a b ≡ are_one b a
are_one-flips a b = grind (arith, nat_tests)

-- the same of letters themselves
pub rise : (letters : List Letter) → IsSortedBy (λ x y. is_lt (source_cmp x y)) letters → IsDistinct are_one letters → IsStrictlySortedBy source_cmp letters
unfolding IsStrictlySortedBy
rise [] up apart = tt
rise (letter ∷ letters) up apart =
    let all = letter ∷ letters in
    sorted_from_all_adjacent source_total all letter (λ k h.
    before (get_or all k letter) (get_or all (k + 1) letter) (up k letter (omega arith) h) (apart_from_distinct are_one all k (k + 1) letter apart (omega arith) h))

-- letters of which each comes before the next
pub rise_adjacent : (letters : List Letter) → ((k : ℕ) (d : Letter) → k + 1 < length letters → source_cmp (get_or letters k d) (get_or letters (k + 1) d) ≡ Less) → IsStrictlySortedBy source_cmp letters
unfolding IsStrictlySortedBy
rise_adjacent [] each = tt
rise_adjacent (letter ∷ letters) each = sorted_from_all_adjacent source_total (letter ∷ letters) letter (λ k h. each k letter h)
