use Rattle.std.proofs.Common.{◌≡◌, map, take}
use Rattle.superstep.specs.PlainRun.{first_row}
use Rattle.plain_run.specs.inside.OneMachine.{entries_in, entry_now, rows_in}
use Rattle.plain_run.proofs.machine.begin.Given as goal

abbrev pub invariant-loop-vertex : goal.invariant-loop-vertex
invariant-loop-vertex l = record {
  entries : entries_in l.all.items ≡ map entry_now (take l.vertex-index l.vertices);
  rows : rows_in l.all.items ≡ map first_row (map entry_now (take l.vertex-index l.vertices));
}
