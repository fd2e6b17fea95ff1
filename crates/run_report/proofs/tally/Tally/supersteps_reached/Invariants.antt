use Rattle.std.proofs.Common.{◌≡◌, vec_len}
use Rattle.run_report.specs.Tally.{counts_until}
use Rattle.run_report.proofs.tally.Tally.supersteps_reached.Given as goal

abbrev pub invariant-loop-superstep : goal.invariant-loop-superstep
invariant-loop-superstep l = record {
  items : l.all.items ≡ counts_until l.self l.superstep;
  count : vec_len l.all ≡ l.superstep;
}
