-- What an event does to a book and its Keep, all together.
use Rattle.std.specs.Prelude.{◌≡◌, ℕ, Bool, List, Option, Result}
use Rattle.job_state.specs.declared.fault.JobFault.{JobFault}
use Rattle.superstep.specs.Job.{Work}
use Rattle.control.specs.declared.answer.Answer.{Answer}
use Rattle.control.specs.Machine.{Machine}
use Rattle.control.specs.Events.{Heard}
use Rattle.book.specs.Saving.{IsCaused, IsSavedOrLeft, KeepsFor, MayLoadAfter}
use Rattle.book.specs.Book.{IsStep}

pub record IsEventStep (work : Work) (trusted : ℕ → Bool) (next : Heard → Machine × Answer) (before after : Machine) (honest honest' : Bool) (kept kept' : Option ℕ) (may_load may_load' : List ℕ → Type 0) (faults faults' : ℕ) (reply : Result Answer JobFault) : Type 0 where
  pub step : IsStep work trusted next before after reply
  pub keeps : KeepsFor work trusted honest' kept' may_load' after
  pub cause : IsCaused work before after faults faults' may_load
  pub left : IsSavedOrLeft before after kept kept'
  pub loads : MayLoadAfter work before after may_load may_load'

-- it does not touch the Keep
pub record IsSteady (before after : Machine) : Type 0 where
  pub saved : after.saved ≡ before.saved
  pub missed : after.missed ≡ before.missed
  pub restarts : after.restarts ≡ before.restarts
