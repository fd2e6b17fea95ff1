use Rattle.std.proofs.lemmas.List.Sorted.{IsPermutation-sym, IsPermutation-trans}
use Rattle.std.proofs.lemmas.Map.Keys.{IsDistinct-IsPermutation}
use Rattle.inbox.specs.Merging.{are_one}
use Rattle.inbox.proofs.Order.{are_one-flips}
use Rattle.inbox.proofs.laws.letters_keep_their_order_in_any_lists.Goals as goal

pub returns-clause-order : goal.returns-clause-order
returns-clause-order c = λ letters shuffled ordered moved by.
    record { same = IsPermutation-trans _ _ _ (IsPermutation-sym _ _ moved) by.same; rising = by.rising }

pub returns-clause-distinct : goal.returns-clause-distinct
returns-clause-distinct c = λ letters shuffled moved apart.
    IsDistinct-IsPermutation are_one are_one-flips letters shuffled moved apart
