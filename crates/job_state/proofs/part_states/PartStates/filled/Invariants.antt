use Rattle.std.proofs.Common.{◌≡◌, take}
use Rattle.job_state.specs.inside.DueRows.{due_rows}
use Rattle.job_state.proofs.Filling.{IsFilledTo}
use Rattle.job_state.proofs.part_states.PartStates.filled.Given as goal

abbrev pub invariant-loop-row : goal.invariant-loop-row
invariant-loop-row l = record {
  filled : IsFilledTo l.row l.initial.vertices.items l.fn.inboxes.items l.vertices.items l.inboxes.rest.items;
  due : l.due.items ≡ due_rows 0 (take l.row l.vertices.items);
}
