use Rattle.std.proofs.Common.{rules}
use Rattle.std.proofs.lemmas.List.Sorted.{IsNonDecreasingBy-from_sort_by_key}
use Rattle.graph.specs.inside.Rising.{keys_sorted}
use Rattle.graph.proofs.partition.sort_by_id.Goals as goal

pub returns-clause-sorted : goal.returns-clause-sorted
returns-clause-sorted g c =
    keys_sorted g.T.Identified.id _ (IsNonDecreasingBy-from_sort_by_key g.T.Identified.id _ c.sort_unstable_by_key.ensures.sorted (λ a r q k. search rules))
