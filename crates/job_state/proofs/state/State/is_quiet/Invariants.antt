use Rattle.std.proofs.Common.{◌≡◌, drop}
use Rattle.std.specs.List.{list_any}
use Rattle.graph.specs.Partition.{joined}
use Rattle.job_state.specs.State.{is_due}
use Rattle.job_state.proofs.state.State.is_quiet.Given as goal

abbrev pub invariant-loop-part : goal.invariant-loop-part
invariant-loop-part l =
    list_any is_due (joined l.part-items) ≡ list_any is_due (joined (drop l.part-index l.part-items))
