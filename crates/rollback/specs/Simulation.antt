-- A whole run over a list of steps.
use Rattle.std.specs.Prelude.{◌≡◌, ◌⊎◌, ◌+◌, ◌*◌, ℕ, suc, List, [], ◌∷◌, length, replicate, slice_index_or, slice_set, Bool, true, Option, Some, None, Result, Ok, Err, nat_lt, if◌then◌else◌}
use Rattle.wasm_ast.specs.declared.module.Module.{Module}
use Rattle.verified.specs.declared.call.CallInput.{CallInput}
use Rattle.verified.specs.declared.facts.Facts.{Facts}
use Rattle.verified.specs.Facts.{AreFactsAt}
use Rattle.verified.specs.Profile.{HasCompute}
use Rattle.semantics.specs.Bounded.{Ends, items_of}
use Rattle.checkpoint.specs.Keep.{LoadsNothingElse}
use Rattle.job_state.specs.declared.fault.JobFault.{JobFault}
use Rattle.job_state.specs.declared.fault.JobFault.TheVariants.{OutOfMemory}
use Rattle.job_state.specs.declared.fault.Place.TheVariants.{Call, Open, Report as Reporting}
use Rattle.superstep.specs.Job.{Work}
use Rattle.superstep.specs.Tasks.{AreUnitsAt}
use Rattle.control.specs.declared.control.Out.{Out}
use Rattle.control.specs.declared.job_status.JobStatus.{JobStatus}
use Rattle.control.specs.declared.job_status.JobStatus.TheVariants.{Fault, Finished, Limit, Running}
use Rattle.control.specs.declared.answer.Answer.{Answer}
use Rattle.control.specs.declared.answer.Answer.TheVariants.{Ended, Stale}
use Rattle.rollback.specs.declared.simulation.Outcome.{Outcome}
use Rattle.rollback.specs.declared.simulation.Outcome.TheVariants as outcome
use Rattle.rollback.specs.declared.simulation.Step.{Step}
use Rattle.rollback.specs.declared.simulation.Step.TheVariants.{Join, Lose, Take, Tick, Work as Works}
use Rattle.rollback.specs.declared.simulation.StepAnswer.{StepAnswer}
use Rattle.rollback.specs.declared.simulation.StepAnswer.TheVariants.{Handed, Idle, Said}
use Rattle.rollback.specs.declared.simulation.Trace.{Trace}
use Rattle.control.specs.Machine.{Machine, hand, handed, is_free, is_running, opened, task_of}
use Rattle.control.specs.Events.{Heard, Stamp, accepted, reply_of}
use Rattle.control.specs.Events.Stamp.{DoneBy, FailedBy, JoinedBy, LostBy, Ticked}
use Rattle.book.specs.Book.{IsQuietAt, IsReport, is_gone}
use Rattle.book.specs.Saving.{IsKeptStep, KeepsFor}
use Rattle.book.specs.Calm.{IsCalmAt, NeverFails}

-- the control model, and the task that each worker holds
pub record Sim : Type 0 where
  pub machine : Machine
  pub held : List (Option Out)

-- the input of a step: what the model hears in its event, and how the one task of the step went
pub record StepInput : Type 0 where
  pub heard : Heard
  -- there was memory for its calls
  pub ran : Bool
  pub units : ℕ

abbrev pub holds : Sim → ℕ → Option Out
holds s w = slice_index_or s.held w None

abbrev pub without_task : Sim → ℕ → Sim
without_task s w = record s { held = slice_set s.held w None }

-- a fault is reported by the outcome alone
abbrev pub said : Result Answer JobFault → StepAnswer
said (Ok answer) = Said answer
said (Err fault) = Said Ended

-- the model takes an event
abbrev pub takes : Heard → Sim → Stamp → Sim × StepAnswer
takes heard s stamp = (record s { machine = (accepted heard s.machine stamp).0 }, said (reply_of (accepted heard s.machine stamp)))

-- the step of a worker that exists, while the job runs
abbrev pub while_running : Sim → ℕ → Sim × StepAnswer → Sim × StepAnswer
while_running s w next = if is_running s.machine.ending then (if nat_lt w (length s.held) then next else (s, Said Stale)) else (s, Said Ended)

-- the worker holds the task of the part that it is assigned
abbrev pub taken : Sim → ℕ → Option ℕ → Sim × StepAnswer
taken s w None = (s, Idle)
taken s w (Some part) = (record { machine = handed s.machine w part; held = slice_set s.held w (Some (task_of s.machine part)) }, Handed part)

abbrev pub take_step : Sim → ℕ → Sim × StepAnswer
take_step s w = while_running s w (if is_free (holds s w) then taken s w (hand s.machine w) else (s, Idle))

-- what a worker reports of a task: its units, or that there was no memory for its calls
abbrev pub brought : (ran : Bool) → (units w : ℕ) → Out → Stamp
brought ran units w task = if ran then DoneBy w task units else FailedBy w Call

-- the worker does the task of the part that it is assigned
abbrev pub worked : StepInput → Sim → ℕ → Option ℕ → Sim × StepAnswer
worked told s w None = (s, Idle)
worked told s w (Some part) = takes told.heard (record s { machine = handed s.machine w part }) (brought told.ran told.units w (task_of s.machine part))

-- the worker does the task that it held, or a new one
abbrev pub work_on : StepInput → Sim → ℕ → Option Out → Sim × StepAnswer
work_on told s w None = while_running s w (worked told s w (hand s.machine w))
work_on told s w (Some task) = takes told.heard s (brought told.ran told.units w task)

abbrev pub work_step : StepInput → Sim → ℕ → Sim × StepAnswer
work_step told s w = work_on told (without_task s w) w (holds s w)

-- a worker that is gone drops its task
abbrev pub emptied : Machine → List (Option Out) → ℕ → List (Option Out)
emptied m held w = if is_gone m w then slice_set held w None else held

abbrev pub join_step : StepInput → Sim → ℕ → Sim × StepAnswer
join_step told s w = takes told.heard (record s { held = emptied s.machine s.held w }) (JoinedBy w)

abbrev pub sim_step : StepInput → Sim → Step → Sim × StepAnswer
sim_step told s (Take w) = take_step s w
sim_step told s (Works w) = work_step told s w
sim_step told s (Lose w) = takes told.heard s (LostBy w)
sim_step told s Tick = takes told.heard s Ticked
sim_step told s (Join w) = join_step told s w

-- ---- which task a step does

abbrev pub new_task : Machine → Option ℕ → Option Out
new_task m None = None
new_task m (Some part) = Some (task_of m part)

abbrev pub held_or_new : Sim → ℕ → Option Out → Option Out
held_or_new s w None = new_task s.machine (hand s.machine w)
held_or_new s w (Some task) = Some task

abbrev pub does : Sim → Step → Option Out
does s (Take w) = None
does s (Works w) = held_or_new s w (holds s w)
does s (Lose w) = None
does s Tick = None
does s (Join w) = None

-- ---- whole runs

-- A step. The model hears whether the plain run is quiet, if the epoch is trusted, and what the task costs there, if
-- the task's is.
pub record IsSimStep (work : Work) (honest : ℕ → Bool) (step : Step) (before after : Sim) (answer : StepAnswer) : Type 0 where
  pub told : StepInput
  pub quiet : honest before.machine.epoch ≡ true → after.machine.superstep ≡ suc before.machine.superstep → IsQuietAt work (suc before.machine.superstep) told.heard.quiet
  pub costs : told.ran ≡ true → (task : Out) → does before step ≡ Some task → honest task.epoch ≡ true → AreUnitsAt work task.superstep task.part told.units
  pub next : sim_step told before step ≡ (after, answer)

-- these steps, one after the other, with these answers
abbrev pub Ran : Work → (ℕ → Bool) → List Step → Sim → List StepAnswer → Sim → Type 0
Ran work honest [] s [] after = s ≡ after
Ran work honest [] s (a ∷ answers) after = ⊥
Ran work honest (x ∷ xs) s [] after = ⊥
Ran work honest (x ∷ xs) s (a ∷ answers) after = (next : Sim) × IsSimStep work honest x s next a × Ran work honest xs next answers after

-- The same, where this relation holds at each step, of the model and the Keep before and after it.
abbrev pub RanOver : {K : Type 0} → (Machine → Machine → K → K → Type 0) → Work → (ℕ → Bool) → List Step → Sim → K → List StepAnswer → Sim → K → Type 0
RanOver over work honest [] s keep [] after keep' = (s ≡ after) × (keep ≡ keep')
RanOver over work honest [] s keep (a ∷ answers) after keep' = ⊥
RanOver over work honest (x ∷ xs) s keep [] after keep' = ⊥
RanOver {K} over work honest (x ∷ xs) s keep (a ∷ answers) after keep' =
    (next : Sim) × (mid : K) × IsSimStep work honest x s next a × over s.machine next.machine keep mid × RanOver over work honest xs next mid answers after keep'

abbrev pub IsEnded : Work → (ℕ → Bool) → Machine → Result Outcome JobFault → Type 0
IsEnded work honest m (Ok (outcome.Open s)) = ⊥
IsEnded work honest m (Ok (outcome.Ended report)) = IsReport work honest m report
IsEnded work honest m (Err fault) = fault ≡ OutOfMemory Reporting

-- how the job has ended, or the superstep that it is at
abbrev pub IsOutcomeAt : Work → (ℕ → Bool) → Machine → JobStatus → Result Outcome JobFault → Type 0
IsOutcomeAt work honest m Running r = r ≡ Ok (outcome.Open m.superstep)
IsOutcomeAt work honest m Finished r = IsEnded work honest m r
IsOutcomeAt work honest m Limit r = IsEnded work honest m r
IsOutcomeAt work honest m (Fault fault) r = r ≡ Err fault

abbrev pub IsTrace : Work → (ℕ → Bool) → Machine → List StepAnswer → Result Trace JobFault → Type 0
IsTrace work honest m answers (Ok trace) = (trace.answers.items ≡ answers) × IsOutcomeAt work honest m m.ending (Ok trace.outcome)
IsTrace work honest m answers (Err fault) = IsOutcomeAt work honest m m.ending (Err fault)

-- no worker holds a task
abbrev pub sim_opened : Work → Bool → Sim
sim_opened work quiet = record { machine = opened work.settings quiet; held = replicate work.settings.workers None }

-- the answers and the outcome of the model over these steps
pub record IsRun (work : Work) (honest : ℕ → Bool) (steps : List Step) (result : Result Trace JobFault) : Type 0 where
  pub quiet : Bool
  pub first : IsQuietAt work 0 quiet
  pub after : Sim
  pub answers : List StepAnswer
  pub ran : Ran work honest steps (sim_opened work quiet) answers after
  pub trace : IsTrace work honest after.machine answers result

-- a run, or there was no memory to begin
abbrev pub IsSimulated : Work → (ℕ → Bool) → List Step → Result Trace JobFault → Type 0
IsSimulated work honest steps result =
    (result ≡ Err (OutOfMemory Open)) ⊎ ((result ≡ Err (OutOfMemory Call)) ⊎ IsRun work honest steps result)

-- ---- calls

-- Whatever a call of the module is given, it never traps, and each of its instructions takes a step. It counts at most
-- the size of `compute` with calls inlined, times one more than its messages and edges.
pub record CallsStayWithin (m : Module) : Type 0 where
  pub compute : HasCompute m
  pub facts : Facts
  pub are : AreFactsAt m compute.number facts
  pub ends : (input : CallInput)
      → Ends m input (facts.size * (1 + items_of input)) facts.max_operands facts.max_frames

-- ---- a Keep that never fails

-- no save was missed, and the job never began again
abbrev pub IsCalm : Outcome → Type 0
IsCalm (outcome.Open s) = Unit {0}
IsCalm (outcome.Ended report) = (report.missed ≡ 0) × (report.restarts ≡ 0)

-- ---- whole runs over a Keep

-- The run, and what each of its steps leaves of the Keep. In the end the Keep has what the model counts as saved.
pub record IsRunOver {K : Type 0} (honest : K → Bool) (saved : K → Option ℕ) (may_load : K → List ℕ → Type 0) (faults : K → ℕ) (work : Work) (trusted : ℕ → Bool) (steps : List Step) (keep keep' : K) (result : Result Trace JobFault) : Type 0 where
  pub quiet : Bool
  pub first : IsQuietAt work 0 quiet
  pub after : Sim
  pub answers : List StepAnswer
  pub ran : RanOver (IsKeptStep honest saved may_load faults work trusted) work trusted steps (sim_opened work quiet) keep answers after keep'
  pub keeps : KeepsFor work trusted (honest keep') (saved keep') (may_load keep') after.machine
  pub calm : LoadsNothingElse saved may_load → NeverFails faults → IsCalmAt after.machine
  pub trace : IsTrace work trusted after.machine answers result

-- a run, or there was no memory to begin, and the Keep is unchanged
abbrev pub IsSimulatedOver : {K : Type 0} → (K → Bool) → (K → Option ℕ) → (K → List ℕ → Type 0) → (K → ℕ) → Work → (ℕ → Bool) → List Step → K → K → Result Trace JobFault → Type 0
IsSimulatedOver honest saved may_load faults work trusted steps keep keep' result =
    ((result ≡ Err (OutOfMemory Open)) × (keep' ≡ keep))
    ⊎ (((result ≡ Err (OutOfMemory Call)) × (keep' ≡ keep)) ⊎ IsRunOver honest saved may_load faults work trusted steps keep keep' result)
