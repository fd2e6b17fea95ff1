use Rattle.std.proofs.Common.{◌≡◌, Some, take}
use Rattle.run_report.specs.Tally.{rest_behind}
use Rattle.run_report.proofs.tally.rest_behind.Given as goal

abbrev pub invariant-loop-counts : goal.invariant-loop-counts
invariant-loop-counts l = l.rest ≡ rest_behind (take l.counts-index l.others) (Some l.dropped)
