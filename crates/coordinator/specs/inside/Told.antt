-- What workers are told of their losses in a list of assignments and events.
use Rattle.std.specs.Prelude.{◌≡◌, ◌<◌, ◌==◌, ℕ, Bool, List, [], ◌∷◌, ◌++◌, length, Option, Some, None, Result, if◌then◌else◌}
use Rattle.superstep.specs.Job.{Work}
use Rattle.job_state.specs.declared.fault.JobFault.{JobFault}
use Rattle.hub_ends.specs.declared.order.Order.{Order}
use Rattle.control.specs.declared.answer.Answer.{Answer}
use Rattle.control.specs.declared.event.Event.{Event}
use Rattle.control.specs.declared.event.Event.TheVariants.{Done, Failed, Joined, Lost, Tick}
use Rattle.book.specs.declared.report.Report.{Report}
use Rattle.control.specs.Machine.{Machine}
use Rattle.coordinator.specs.JobAnswers.{RanFrom}
use Rattle.coordinator.specs.Joining.{is_counted, losses}
use Rattle.hub_ends.specs.Verdicts.{told_to}
use Rattle.coordinator.specs.inside.EventLoop.{StepsOver}
use Rattle.coordinator.specs.declared.event_loop.Due.{Due}
use Rattle.hub_ends.specs.declared.message.Message.{Message}

-- the worker that an event reports as lost
abbrev pub lost_in : {J : Type 0} → Event J → Option ℕ
lost_in (Done w done) = None
lost_in (Failed w place) = None
lost_in (Lost w) = Some w
lost_in (Joined w) = None
lost_in Tick = None

-- the verdict on a loss, by the answer to it
abbrev pub due_by : Option ℕ → Result Answer JobFault → Option Due
due_by None answer = None
due_by (Some w) answer = Some (record { worker = w; counted = is_counted answer })

-- what worker w is told of it
abbrev pub due_to : ℕ → Option Due → List Bool
due_to w None = []
due_to w (Some due) = if due.worker == w then due.counted ∷ [] else []

-- each worker was told what was due
pub record IsToldNext (told told' : List (List Bool)) (due : Option Due) : Type 0 where
  pub width : length told' ≡ length told
  pub next : (w : ℕ) → w < length told → told_to told' w ≡ told_to told w ++ due_to w due

-- steps, and the verdict that is due after them
pub record StepsDue {J K : Type 0} (kept : Machine → Machine → K → K → Type 0) (work : Work) (honest : ℕ → Bool) (before now : Machine) (received received' : List (Message J)) (handed handed' : List (List (Order J))) (keep keep' : K) (due : Option Due) : Type 0 where
  pub over : StepsOver kept work honest before now received received' handed handed' keep keep'
  pub due_is : (w : ℕ) → due_to w due ≡ losses w before over.steps.moves

-- steps, and what each worker that listens was told of its losses in them
pub record StepsTold {J K : Type 0} (kept : Machine → Machine → K → K → Type 0) (work : Work) (honest : ℕ → Bool) (before now : Machine) (received received' : List (Message J)) (handed handed' : List (List (Order J))) (keep keep' : K) (told : List (List Bool)) : Type 0 where
  pub over : StepsOver kept work honest before now received received' handed handed' keep keep'
  pub told_is : (w : ℕ) → w < length told → told_to told w ≡ losses w before over.steps.moves

-- the list of a `RanFrom`, and what each worker that listens was told of its losses in it
pub record ToldFrom {J : Type 0} (work : Work) (honest : ℕ → Bool) (first : Machine) (received : List (Message J)) (handed : List (List (Order J))) (told : List (List Bool)) (answer : Result Report JobFault) : Type 0 where
  pub ran : RanFrom work honest first received handed answer
  pub told_is : (w : ℕ) → w < length told → told_to told w ≡ losses w first ran.moves
