use Rattle.std.proofs.Common.{◌≡◌, drop}
use Rattle.graph.specs.Entry.{entries_of}
use Rattle.compute.specs.inside.DueRuns.{IsRunning}
use Rattle.compute.proofs.tasks.run_part.Given as goal

abbrev pub invariant-loop-row : goal.invariant-loop-row
invariant-loop-row l = record {
  kept : l.scratch ≡ l.shared.verified.now;
  running : IsRunning l.shared (entries_of l.entries) l.fn.vertices l.vertices (drop l.row-index l.due) l.left l.active.items;
}
