use Rattle.std.proofs.Common.{◌≡◌}
use Rattle.semantics.specs.Call.{Outcome}
use Rattle.semantics.specs.Outcomes.{Given}
use Rattle.superstep.specs.inside.Called.{Tells, left_in}
use Rattle.plain_run.specs.inside.OneMachine.{entries_in, rows_in}
use Rattle.plain_run.proofs.PlainCalls.{AreCalled}
use Rattle.plain_run.proofs.machine.call_all.Given as goal

abbrev pub invariant-loop-index : goal.invariant-loop-index
invariant-loop-index l = record {
  kept : l.scratch ≡ l.shared.verified.now;
  same : entries_in l.vertices ≡ entries_in l.fn.vertices;
  calls : (outcomes : Given → Outcome) → Tells l.shared.verified.now outcomes
      → AreCalled (left_in outcomes l.shared) (rows_in l.fn.vertices) (rows_in l.vertices) l.index l.sent;
}
