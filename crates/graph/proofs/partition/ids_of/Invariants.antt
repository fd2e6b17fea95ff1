use Rattle.std.proofs.Common.{◌≡◌, map, take, length, vec_capacity, vec_len}
use Rattle.graph.proofs.partition.ids_of.Given as goal

abbrev pub invariant-loop-element : goal.invariant-loop-element
invariant-loop-element g l = record {
  ids : l.ids.items ≡ map g.T.Identified.id (take l.element-index l.elements);
  len : vec_len l.ids ≡ l.element-index;
  room : vec_capacity l.ids ≡ length l.elements;
}
