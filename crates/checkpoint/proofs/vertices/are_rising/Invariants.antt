use Rattle.std.proofs.Common.{◌≡◌, ◌-◌, drop, map}
use Rattle.job_state.specs.State.{state_id}
use Rattle.checkpoint.specs.Reading.{is_rising}
use Rattle.checkpoint.proofs.vertices.are_rising.Given as goal

abbrev pub invariant-loop-index : goal.invariant-loop-index
invariant-loop-index l = is_rising (map state_id (drop (l.index - 1) l.vertices)) ≡ is_rising (map state_id l.vertices)
