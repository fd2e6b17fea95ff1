use Rattle.std.proofs.Common.{◌≡◌, ◌-◌, ◌^◌, min, take}
use Rattle.std.specs.Prelude.{sum_by}
use Rattle.superstep.specs.inside.Opening.{edges_at}
use Rattle.superstep.proofs.job.edges_in.Given as goal

abbrev pub invariant-loop-vertex : goal.invariant-loop-vertex
invariant-loop-vertex l = l.count ≡ min (sum_by edges_at (take l.vertex-index l.vertices)) (2 ^ 64 - 1)
