-- What a panel of a chart shows.
use Rattle.std.specs.Prelude.{ℕ, List, Option, fold, max, unwrap_or}
use Rattle.run_report.specs.declared.measure.Measure.{Measure}
use Rattle.run_report.specs.declared.measure.Measure.TheVariants.{Called, Sent, Units}
use Rattle.run_report.specs.declared.counts.SuperstepCounts.{SuperstepCounts}

-- what it shows of a superstep, where that is known
abbrev pub measured : Measure → SuperstepCounts → Option ℕ
measured Called counts = counts.called
measured Sent counts = counts.sent
measured Units counts = counts.units

-- the greatest that is known of these supersteps, else 0
abbrev pub most_of : Measure → List SuperstepCounts → ℕ
most_of measure supersteps = fold (λ most counts. max most (unwrap_or (measured measure counts) 0)) 0 supersteps
