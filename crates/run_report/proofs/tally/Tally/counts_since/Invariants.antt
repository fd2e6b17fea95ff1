use Rattle.std.proofs.Common.{◌≡◌, ◌≤◌, ◌-◌, max, vec_len}
use Rattle.run_report.specs.Tally.{counts_since}
use Rattle.run_report.proofs.tally.Tally.counts_since.Given as goal

abbrev pub invariant-loop-superstep : goal.invariant-loop-superstep
invariant-loop-superstep l = record {
  items : l.all.items ≡ counts_since l.self l.ended (l.superstep - l.ended.since);
  count : vec_len l.all ≡ l.superstep - l.ended.since;
  within : l.superstep ≤ max l.ended.since l.ended.superstep;
}
