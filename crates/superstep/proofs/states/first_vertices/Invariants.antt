use Rattle.std.proofs.Common.{◌≡◌, map, take}
use Rattle.graph.specs.Entry.{entry_of}
use Rattle.superstep.specs.inside.Rows.{first_vertices}
use Rattle.superstep.proofs.states.first_vertices.Given as goal

abbrev pub invariant-loop-vertex : goal.invariant-loop-vertex
invariant-loop-vertex l = l.vertices.items ≡ first_vertices (map entry_of (take l.vertex-index l.vertex-items))
