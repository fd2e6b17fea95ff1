use Rattle.std.proofs.Common.{rules}
use Rattle.std.proofs.lemmas.List.Sorted.{IsNonDecreasingBy-from_sort_by_key}
use Rattle.std.proofs.lemmas.Result.{on_ok_weaker}
use Rattle.graph.specs.inside.Rising.{keys_sorted}
use Rattle.graph.proofs.partition.merge_by_id.Goals as goal

pub returns-clause-sorted : goal.returns-clause-sorted
returns-clause-sorted g c =
    on_ok_weaker c.sort_by_key.result (λ up. keys_sorted g.T.Identified.id _ (IsNonDecreasingBy-from_sort_by_key g.T.Identified.id _ up (λ a r q k. search rules)))
    c.sort_by_key.ensures.sorted
