use Rattle.std.proofs.Common.{◌≡◌, ◌≤◌, ℕ, vec_len}
use Rattle.run_report.specs.Tally.{row_in}
use Rattle.run_report.proofs.tally.pad.Given as goal

abbrev pub invariant-loop-next : goal.invariant-loop-next
invariant-loop-next l = record {
  reached : l._next ≤ vec_len l.rows;
  same : (place : ℕ) → row_in l.rows.items place ≡ row_in l.initial.rows.items place;
}
