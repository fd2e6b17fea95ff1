-- A sort puts letters that differ in source or number by target, and those to one target by source.
use Rattle.std.proofs.Common.{◌≡◌, ◌+◌, false, List, [], ◌∷◌, get_or, arith}
use Rattle.std.proofs.lemmas.Bool.Decides.{nat_tests}
use Rattle.std.proofs.lemmas.Cmp.{then_total, on_total, int_cmp_total}
use Rattle.std.proofs.lemmas.Int.{ints}
use Rattle.std.proofs.lemmas.Map.Keys.{sorted_from_all_adjacent, apart_from_distinct}
use Rattle.std.specs.Cmp.{IsTotalOrder}
use Rattle.std.specs.List.{IsDistinct}
use Rattle.std.specs.List.Sorted.{IsSorted, IsStrictlySortedBy}
use Rattle.std.specs.Ordering.{is_lt, int_cmp, nat_cmp, ordering_then}
use Rattle.std.specs.declared.cmp.Ordering.{Ordering}
use Rattle.std.specs.declared.cmp.Ordering.TheVariants.{Less}
use Rattle.inbox.specs.declared.letters.Letter.{Letter}
use Rattle.inbox.specs.Merging.{are_one}
use Rattle.inbox.specs.inside.Targets.{target_cmp}
use Rattle.inbox.proofs.Order.{source_total}

-- what `cmp` of letters answers
abbrev pub letter_cmp : Letter → Letter → Ordering
letter_cmp a b = ordering_then (int_cmp a.to b.to) (ordering_then (nat_cmp a.from b.from) (ordering_then (nat_cmp a.seq b.seq) (int_cmp a.value b.value)))

pub target_total : IsTotalOrder target_cmp
target_total = then_total (on_total (λ letter. letter.to) int_cmp_total) source_total

before : (a b : Letter) → is_lt (letter_cmp b a) ≡ false → are_one a b ≡ false → target_cmp a b ≡ Less
before a b late apart = grind (arith, nat_tests, ints)

pub rises_by_target : (letters : List Letter) → IsSorted letter_cmp letters → IsDistinct are_one letters → IsStrictlySortedBy target_cmp letters
unfolding IsStrictlySortedBy
rises_by_target [] up apart = tt
rises_by_target (letter ∷ letters) up apart =
    let all = letter ∷ letters in
    sorted_from_all_adjacent target_total all letter (λ k h.
    before (get_or all k letter) (get_or all (k + 1) letter) (up k letter (omega arith) h) (apart_from_distinct are_one all k (k + 1) letter apart (omega arith) h))
