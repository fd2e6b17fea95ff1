use Rattle.std.proofs.Common.{[], arith}
use Rattle.std.proofs.lemmas.List.Sorted.{length_permutation}
use Rattle.inbox.proofs.Counting.{delivered_or_dropped, dropped_of_none}
use Rattle.inbox.proofs.OneOrder.{same_dropped}
use Rattle.inbox.proofs.laws.letters_are_delivered_once_or_drop.Goals as goal

pub returns : goal.returns
returns c = λ letters ordered ids by apart.
    omega (arith, delivered_or_dropped ordered [] ids apart, dropped_of_none ordered, same_dropped letters ordered ids by.same, length_permutation letters ordered by.same)
