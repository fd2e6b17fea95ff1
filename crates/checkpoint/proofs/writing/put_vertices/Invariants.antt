use Rattle.std.proofs.Common.{◌≡◌, ◌++◌, length, map, take}
use Rattle.std.specs.List.{AllByRecursion, flat_map}
use Rattle.checkpoint.specs.Checkpoint.{VertexFits, vertex_bytes}
use Rattle.checkpoint.specs.Numbers.{number}
use Rattle.checkpoint.proofs.writing.put_vertices.Given as goal

abbrev pub invariant-loop-vertex : goal.invariant-loop-vertex
invariant-loop-vertex l = record {
  appended : l.out.items ≡ l.fn.out.items ++ (number 4 (length l.vertices) ++ flat_map vertex_bytes (map (λ vertex. vertex.now) (take l.vertex-index l.vertices)));
  fits : AllByRecursion VertexFits (map (λ vertex. vertex.now) (take l.vertex-index l.vertices));
}
