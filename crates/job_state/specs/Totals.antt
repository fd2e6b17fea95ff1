-- The totals of a job before a superstep.
use Rattle.std.specs.Prelude.{◌≡◌, ◌≤◌, ◌+◌, ℤ, List, length}
use Rattle.std.specs.List.{sum}
use Rattle.job_state.specs.declared.state.VertexState.{VertexState}
use Rattle.job_state.specs.declared.totals.Totals.{Totals}
use Rattle.job_state.specs.State.{Standing, capped}

-- these are the totals of this state
pub record IsTotalsOf (state : Standing) (totals : Totals) : Type 0 where
  pub superstep : totals.superstep ≡ state.superstep
  pub since : totals.since ≡ state.since
  pub by_superstep : totals.by_superstep.items ≡ state.by_superstep
  pub units : totals.units ≡ state.units
  pub dropped : totals.dropped ≡ state.dropped

-- the model of a state with these totals, aggregates and vertices
abbrev pub standing_of : Totals → List ℤ → List VertexState → Standing
standing_of totals aggregates vertices = record {
  superstep = totals.superstep;
  since = totals.since;
  by_superstep = totals.by_superstep.items;
  units = totals.units;
  dropped = totals.dropped;
  aggregates = aggregates;
  vertices = vertices;
}

-- The units of each superstep from `since` on are reported. The total is at least their sum, and is their sum where all
-- supersteps are reported.
pub record AreTotals (totals : Totals) : Type 0 where
  pub told : totals.since + length totals.by_superstep.items ≡ totals.superstep
  pub least : capped (sum totals.by_superstep.items) ≤ totals.units
  pub all : totals.since ≡ 0 → totals.units ≡ capped (sum totals.by_superstep.items)
