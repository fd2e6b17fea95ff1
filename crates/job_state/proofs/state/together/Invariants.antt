use Rattle.std.proofs.Common.{◌≡◌}
use Rattle.graph.specs.Partition.{joined}
use Rattle.job_state.proofs.state.together.Given as goal

abbrev pub invariant-loop-part : goal.invariant-loop-part
invariant-loop-part l = l.vertices.items ≡ joined l.yielded
