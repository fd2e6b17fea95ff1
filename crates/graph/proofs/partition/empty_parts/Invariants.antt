use Rattle.std.proofs.Common.{◌≡◌, map, [], vec_items, vec_capacity, vec_len}
use Rattle.std.specs.List.{range_with_len}
use Rattle.graph.specs.Partition.{part_by}
use Rattle.graph.proofs.partition.empty_parts.Given as goal

abbrev pub invariant-loop-part : goal.invariant-loop-part
invariant-loop-part g l = record {
  empty : map vec_items l.parts.items ≡ map (part_by g.T.Identified.id l.count []) (range_with_len 0 l.part);
  len : vec_len l.parts ≡ l.part;
  room : vec_capacity l.parts ≡ l.count;
}
