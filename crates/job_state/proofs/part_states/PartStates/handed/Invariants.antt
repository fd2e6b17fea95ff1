use Rattle.std.proofs.Common.{◌≡◌}
use Rattle.std.specs.List.{fold}
use Rattle.std.specs.List.Sorted.{IsPermutation}
use Rattle.job_state.specs.inside.DueRows.{due_rows}
use Rattle.job_state.specs.inside.Handed.{handed}
use Rattle.job_state.proofs.part_states.PartStates.handed.Given as goal

abbrev pub invariant-loop-arrival : goal.invariant-loop-arrival
invariant-loop-arrival l = record {
  handed : l.vertices.items ≡ fold handed l.initial.vertices.items l.yielded;
  due : IsPermutation l.due.items (due_rows 0 l.vertices.items);
}
