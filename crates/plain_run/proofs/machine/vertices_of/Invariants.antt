use Rattle.std.proofs.Common.{◌≡◌, map, take}
use Rattle.graph.specs.Partition.{joined}
use Rattle.plain_run.proofs.PlainSteps.{vertices_in}
use Rattle.plain_run.proofs.machine.vertices_of.Given as goal

abbrev pub invariant-loop-part : goal.invariant-loop-part
invariant-loop-part l = map (λ vertex. vertex.now) l.vertices.items ≡ joined (map vertices_in (take l.part-index l.part-items))
