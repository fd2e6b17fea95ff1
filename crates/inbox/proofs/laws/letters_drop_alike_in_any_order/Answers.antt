use Rattle.std.proofs.Common.{not, sym}
use Rattle.std.proofs.lemmas.List.Sorted.{list_any-IsPermutation}
use Rattle.std.specs.List.{count_by}
use Rattle.inbox.specs.Merging.{goes_to}
use Rattle.inbox.proofs.OneOrder.{same_dropped}
use Rattle.inbox.proofs.laws.letters_drop_alike_in_any_order.Goals as goal

pub returns-clause-letters : goal.returns-clause-letters
returns-clause-letters c = λ letters shuffled ids moved. sym (same_dropped letters shuffled ids moved)

pub returns-clause-ids : goal.returns-clause-ids
returns-clause-ids c = λ letters ids shuffled moved.
    λ i. count_by (λ letter. not (list_any-IsPermutation (goes_to letter) ids shuffled moved i)) letters
