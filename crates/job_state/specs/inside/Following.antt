-- The totals after one more superstep.
use Rattle.std.specs.Prelude.{◌≡◌, ◌+◌, ◌++◌, ◌∷◌, ℕ, []}
use Rattle.job_state.specs.declared.totals.Totals.{Totals}
use Rattle.job_state.specs.State.{capped}

-- the totals after one more superstep, whose calls took `took` units and of whose messages `lost` went to no vertex
pub record Follows (took lost : ℕ) (old new : Totals) : Type 0 where
  pub superstep : new.superstep ≡ old.superstep + 1
  pub since : new.since ≡ old.since
  pub by_superstep : new.by_superstep.items ≡ old.by_superstep.items ++ took ∷ []
  pub units : new.units ≡ capped (old.units + took)
  pub dropped : new.dropped ≡ capped (old.dropped + lost)
