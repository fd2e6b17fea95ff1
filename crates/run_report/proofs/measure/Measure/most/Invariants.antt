use Rattle.std.proofs.Common.{◌≡◌, take}
use Rattle.run_report.specs.Measures.{most_of}
use Rattle.run_report.proofs.measure.Measure.most.Given as goal

abbrev pub invariant-loop-counts : goal.invariant-loop-counts
invariant-loop-counts l = l.most ≡ most_of l.self (take l.counts-index l.supersteps)
