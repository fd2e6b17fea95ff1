-- A worker joins again only after a loss that was counted.
use Rattle.std.specs.Prelude.{◌≡◌, ◌<◌, ◌==◌, ℕ, Bool, true, false, List, [], ◌∷◌, ◌++◌, Result, Ok, Err, if◌then◌else◌}
use Rattle.superstep.specs.Job.{Work}
use Rattle.job_state.specs.declared.fault.JobFault.{JobFault}
use Rattle.hub_ends.specs.declared.order.Order.{Order}
use Rattle.control.specs.declared.answer.Answer.{Answer}
use Rattle.control.specs.declared.answer.Answer.TheVariants.{Advanced, Ended, RolledBack, Stale, Taken}
use Rattle.book.specs.declared.report.Report.{Report}
use Rattle.book.specs.Book.{IsQuietAt}
use Rattle.control.specs.Events.{Heard, Stamp, accepted, begun, reply_of}
use Rattle.control.specs.Events.Stamp.{DoneBy, FailedBy, JoinedBy, LostBy, Ticked}
use Rattle.control.specs.Machine.{Machine, opened}
use Rattle.coordinator.specs.JobAnswers.{RanFrom}
use Rattle.worker_loops.specs.Returns.{IsWorkOn, events_by}
use Rattle.worker_loops.specs.Counted.{joins_counted}
use Rattle.coordinator.specs.Steps.{Move, events, hands, moved}
use Rattle.coordinator.specs.Steps.Move.{Hand, Take}
use Rattle.hub_ends.specs.declared.message.Message.{Message}

-- ---- the losses of a worker

abbrev pub is_rollback : Answer → Bool
is_rollback Taken = false
is_rollback (Advanced superstep) = false
is_rollback (RolledBack superstep) = true
is_rollback Stale = false
is_rollback Ended = false

-- A loss was counted if it rolled the job back. It was not if the worker was lost before, by its lease, or has not joined yet, or if the
-- job has ended.
abbrev pub is_counted : Result Answer JobFault → Bool
is_counted (Ok answer) = is_rollback answer
is_counted (Err fault) = false

abbrev pub is_loss_of : ℕ → Stamp → Bool
is_loss_of w (DoneBy v task units) = false
is_loss_of w (FailedBy v place) = false
is_loss_of w (LostBy v) = v == w
is_loss_of w (JoinedBy v) = false
is_loss_of w Ticked = false

abbrev pub loss_in : ℕ → Machine → Move → List Bool
loss_in w m (Hand v task) = []
loss_in w m (Take heard stamp) = if is_loss_of w stamp then is_counted (reply_of (accepted heard m stamp)) ∷ [] else []

-- whether each loss that worker w reported in the list was counted, in order
abbrev pub losses : ℕ → Machine → List Move → List Bool
losses w m [] = []
losses w m (move ∷ moves) = loss_in w m move ++ losses w (moved m move) moves

-- ---- whole runs

-- There is a list as in `RanFrom`. In it each worker sends events for the tasks that it was assigned alone, one result at most for
-- each. It joins again only right after a loss that it reported and that was counted.
pub record JoinedFrom {J : Type 0} (work : Work) (honest : ℕ → Bool) (first : Machine) (received : List (Message J)) (handed : List (List (Order J))) (answer : Result Report JobFault) : Type 0 where
  pub ran : RanFrom work honest first received handed answer
  pub joins : (w : ℕ) → w < work.settings.workers → joins_counted false (losses w first ran.moves) (events_by w (events ran.moves)) ≡ true
  pub returns : (w : ℕ) → w < work.settings.workers → IsWorkOn work honest (hands w ran.moves) (events_by w (events ran.moves))

-- from superstep 0 on
abbrev pub JoinedOver : {J : Type 0} → Work → (ℕ → Bool) → List (Message J) → List (List (Order J)) → Result Report JobFault → Type 0
JoinedOver work honest received handed answer =
    (quiet : Bool) × IsQuietAt work 0 quiet × JoinedFrom work honest (opened work.settings quiet) received handed answer

-- from a superstep on whose state was loaded
abbrev pub JoinedOn : {J : Type 0} → Work → (ℕ → Bool) → (superstep : ℕ) → List (Message J) → List (List (Order J)) → Result Report JobFault → Type 0
JoinedOn work honest superstep received handed answer =
    (heard : Heard) × JoinedFrom work honest (begun heard work.settings superstep) received handed answer
