-- Which totals are those of a job before a superstep.
use Rattle.std.specs.Prelude.{◌≡◌, ◌-◌, map}
use Rattle.std.specs.List.{range_with_len}
use Rattle.job_state.specs.declared.totals.Totals.{Totals}
use Rattle.superstep.specs.PlainRun.{state_at, units_at}
use Rattle.superstep.specs.Job.{Meaning, Work}

-- these are the totals of the job before their superstep
pub record SumsAt (work : Work) (meaning : Meaning work) (totals : Totals) : Type 0 where
  pub units : totals.units ≡ (state_at meaning.outcomes meaning.graph totals.superstep).units
  pub dropped : totals.dropped ≡ (state_at meaning.outcomes meaning.graph totals.superstep).dropped
  pub by_superstep : totals.by_superstep.items
      ≡ map (units_at meaning.outcomes meaning.graph) (range_with_len totals.since (totals.superstep - totals.since))

abbrev pub AreTotalsOf : Work → Totals → Type 0
AreTotalsOf work totals = (meaning : Meaning work) → SumsAt work meaning totals
