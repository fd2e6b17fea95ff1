use Rattle.std.proofs.Common.{◌≡◌, ◌≤◌, ◌-◌, map}
use Rattle.semantics.specs.Call.{Outcome}
use Rattle.semantics.specs.Outcomes.{AreOutcomes, Given}
use Rattle.plain_run.specs.inside.OneMachine.{IsAt, entries_in, entry_now}
use Rattle.plain_run.proofs.machine.run_over.Given as goal

abbrev pub invariant-loop-plain : goal.invariant-loop-plain
invariant-loop-plain l = record {
  entries : entries_in l.plain.vertices.items ≡ map entry_now l.vertices;
  at : (outcomes : Given → Outcome) → AreOutcomes l.job.«module» outcomes → IsAt outcomes (map entry_now l.vertices) l.plain;
  within : l.plain.superstep ≤ l.job.settings.limit;
  fits : l.scratch ≡ l.job.«module»;
  limit : l.limit ≡ l.job.settings.limit;
}

abbrev pub decreases-loop-plain : goal.decreases-loop-plain
decreases-loop-plain l = l.limit - l.plain.superstep
