-- What tells how a job stands has no number with a fraction.
use Rattle.std.proofs.Common.{◌≡◌, ℕ, false, List, refl}
use Rattle.serde_json.specs.Written.{has_float}
use Rattle.session.specs.declared.run_state.RunState.{RunState}
use Rattle.session.specs.declared.run_state.RunState.TheVariants as state
use Rattle.session.specs.Replies.{status_data}

pub status-no_float : (name : List ℕ) (end : RunState) → has_float (status_data name end) ≡ false
status-no_float name state.Waiting = refl
status-no_float name (state.Ended report) = refl
status-no_float name (state.Failed fault) = refl
