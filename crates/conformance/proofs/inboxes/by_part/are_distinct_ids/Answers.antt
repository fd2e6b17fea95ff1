use Rattle.std.proofs.Common.{◌≡◌, List, ℕ, arith}
use Rattle.std.proofs.lemmas.Bool.Decides.{nat_tests}
use Rattle.std.proofs.lemmas.List.Sorted.{IsPermutation-sym}
use Rattle.std.proofs.lemmas.Map.Keys.{IsDistinct-from_apart, IsDistinct-IsPermutation, below_from_sorted, sorted_from_strictly_increasing}
use Rattle.std.specs.List.{IsDistinct, each_same}
use Rattle.std.specs.List.Sorted.{IsStrictlyIncreasing}
use Rattle.std.specs.Prelude.{nat_eq}
use Rattle.inbox.specs.Merging.{all_of}
use Rattle.conformance.proofs.inboxes.by_part.are_distinct_ids.Goals as goal

rising_distinct : (ids : List ℕ) → IsStrictlyIncreasing ids → IsDistinct nat_eq ids
rising_distinct ids rising = IsDistinct-from_apart nat_eq ids (λ i j d before inside.
    let below = below_from_sorted ids i j d (sorted_from_strictly_increasing ids rising) before inside in
    grind (arith, nat_tests))

pub returns : goal.returns
returns c = λ rises.
    let all = c.in_ok-all.all.items in
    let sorted = c.sort_unstable.new.self.items in
    let same : all ≡ all_of c.args.ids.now = each_same _ all c.in_ok-all.ensures.ok in
    let moved = IsPermutation-sym all sorted c.sort_unstable.ensures.permutation in
    let distinct = rising_distinct sorted ((rw c.deref.ensures.value at c.are_rising.ensures) rises) in
    rw (← same) (IsDistinct-IsPermutation nat_eq (λ a b. grind (arith, nat_tests)) sorted all moved distinct)
