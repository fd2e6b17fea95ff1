use Rattle.std.proofs.Common.{◌≡◌, ◌-◌, ◌^◌, ◌<◌, ℕ, min, IsSome}
use Rattle.run_report.specs.Tally.{epoch_before, whole_in}
use Rattle.run_report.proofs.tally.Tally.reached.Given as goal

abbrev pub invariant-loop-row : goal.invariant-loop-row
invariant-loop-row l = record {
  count : l.reached ≡ min l.row-index (2 ^ 32 - 1);
  epoch : l.epoch ≡ epoch_before l.self l.row-index;
  whole : (superstep : ℕ) → superstep < l.row-index → IsSome (whole_in l.self superstep);
}
