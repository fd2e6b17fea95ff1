use Rattle.std.proofs.Common.{◌≡◌, map, take}
use Rattle.graph.specs.Partition.{joined}
use Rattle.job_state.proofs.state.State.in_order.Given as goal

abbrev pub invariant-loop-part : goal.invariant-loop-part
invariant-loop-part l = map (λ vertex. vertex.now) l.vertices.items ≡ joined (take l.part-index l.part-items)
