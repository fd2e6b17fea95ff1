use Rattle.std.proofs.lemmas.List.Filters.{dedup_is}
use Rattle.std.proofs.lemmas.List.Kept.{Contains-dedup_nat, Contains-from_dedup}
use Rattle.std.proofs.lemmas.List.Sorted.{Contains-permutation, IsPermutation-sym}
use Rattle.std.proofs.lemmas.Map.Keys.{IsStrictlyIncreasing-dedup}
use Rattle.conversions.proofs.graph_import.vertices.vertices_of.Goals as goal

pub returns : goal.returns
returns c =
    let is = dedup_is _ _ _ c.dedup.ensures.filtered in
    let moved = c.sort_unstable.ensures.permutation in
    let ends = c.in_ok-ids.ensures in
    record {
      rising = rw is (IsStrictlyIncreasing-dedup _ c.sort_unstable.ensures.sorted);
      all = λ id h. rw is (Contains-dedup_nat _ id (Contains-permutation _ _ id moved (rw ends h)));
      only = λ id h. rw ends at (Contains-permutation _ _ id (IsPermutation-sym _ _ moved) (Contains-from_dedup _ _ id (rw is at h)));
    }
