-- What an event leaves of the counts.
use Rattle.std.specs.Prelude.{◌≡◌, ℕ, List, Some}
use Rattle.superstep.specs.Job.{Work}
use Rattle.control.specs.Machine.{Machine}
use Rattle.book.specs.Saving.{IsMadeAt}

-- no more was missed, and the job did not begin again
pub record HasSameCounts (before after : Machine) : Type 0 where
  pub missed : after.missed ≡ before.missed
  pub restarts : after.restarts ≡ before.restarts

-- if it may load nothing else, it loads a state that fits there
abbrev pub LoadsMade : Work → (List ℕ → Type 0) → Machine → Type 0
LoadsMade work may_load m = (s : ℕ) → m.saved ≡ Some s → (bytes : List ℕ) → may_load bytes → IsMadeAt work s bytes
