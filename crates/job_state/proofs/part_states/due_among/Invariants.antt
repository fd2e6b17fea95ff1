use Rattle.std.proofs.Common.{◌≡◌, take}
use Rattle.job_state.specs.inside.DueRows.{due_rows}
use Rattle.job_state.proofs.part_states.due_among.Given as goal

abbrev pub invariant-loop-row : goal.invariant-loop-row
invariant-loop-row l = l.due.items ≡ due_rows 0 (take l.row l.vertices)
