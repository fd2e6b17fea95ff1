use Rattle.std.proofs.Common.{◌≡◌, take, length, vec_capacity, vec_len}
use Rattle.graph.specs.Entry.{entries_of}
use Rattle.graph.proofs.graph.copied.Given as goal

abbrev pub invariant-loop-vertex : goal.invariant-loop-vertex
invariant-loop-vertex l = record {
  same : entries_of l.copies.items ≡ entries_of (take l.vertex-index l.vertices);
  len : vec_len l.copies ≡ l.vertex-index;
  room : vec_capacity l.copies ≡ length l.vertices;
}
