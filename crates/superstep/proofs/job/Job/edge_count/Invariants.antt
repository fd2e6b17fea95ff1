use Rattle.std.proofs.Common.{◌≡◌, ◌-◌, ◌^◌, min, take}
use Rattle.std.specs.Prelude.{sum_by}
use Rattle.superstep.proofs.Edges.{edges_of}
use Rattle.superstep.proofs.job.Job.edge_count.Given as goal

abbrev pub invariant-loop-part : goal.invariant-loop-part
invariant-loop-part l = l.count ≡ min (sum_by edges_of (take l.part-index l.part-items)) (2 ^ 64 - 1)
