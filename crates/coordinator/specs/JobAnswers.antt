-- What the answer of a job says of the list of assignments and events that led to it.
use Rattle.std.specs.Prelude.{◌≡◌, ◌<◌, ℕ, Bool, true, false, List, ◌++◌, Option, Some, Result, Ok, Err, slice_index_or}
use Rattle.checkpoint.specs.Keep.{LoadsNothingElse}
use Rattle.superstep.specs.Job.{Work}
use Rattle.job_state.specs.declared.fault.JobFault.{JobFault}
use Rattle.job_state.specs.declared.fault.JobFault.TheVariants.{Closed, NoWorkers, OutOfMemory, Settings, ThreadRefused}
use Rattle.job_state.specs.declared.fault.Place.{Place}
use Rattle.job_state.specs.declared.fault.Place.TheVariants as place
use Rattle.control.specs.declared.job_status.JobStatus.{JobStatus}
use Rattle.control.specs.declared.job_status.JobStatus.TheVariants.{Fault, Finished, Limit, Running}
use Rattle.book.specs.declared.report.Report.{Report}
use Rattle.book.specs.Book.{IsQuietAt, IsReport}
use Rattle.control.specs.Events.{Heard, begun}
use Rattle.control.specs.Machine.{Machine, opened}
use Rattle.book.specs.Saving.{IsKeptStep, IsLoadResult, IsMadeAt, KeepsFor}
use Rattle.book.specs.Calm.{IsCalmAt, NeverFails}
use Rattle.hub_ends.specs.Orders.{at}
use Rattle.worker_loops.specs.Returns.{IsWorkOn, events_by}
use Rattle.coordinator.specs.Steps.{AreMoves, KeptAlong, Move, after, events, hands}
use Rattle.worker_loops.specs.Numbers.{outs_in, stamps_in}
use Rattle.coordinator.specs.Units.{cut, units_by}
use Rattle.hub_ends.specs.declared.message.Message.{Message}
use Rattle.hub_ends.specs.declared.order.Order.{Order}

-- ---- the answer

-- the control model of the job before superstep 0
abbrev pub IsOpened : Work → Machine → Type 0
IsOpened work m = (quiet : Bool) × IsQuietAt work 0 quiet × (m ≡ opened work.settings quiet)

-- if the job has an answer, it is reported, unless memory runs out
abbrev pub IsTold : Work → (ℕ → Bool) → Machine → Result Report JobFault → Type 0
IsTold work honest m (Ok report) = IsReport work honest m report
IsTold work honest m (Err fault) = fault ≡ OutOfMemory place.Report

-- the answer if the model has ended so
abbrev pub IsAnswerAt : Work → (ℕ → Bool) → Machine → JobStatus → Result Report JobFault → Type 0
IsAnswerAt work honest m Running answer = ⊥
IsAnswerAt work honest m Finished answer = IsTold work honest m answer
IsAnswerAt work honest m Limit answer = IsTold work honest m answer
IsAnswerAt work honest m (Fault fault) answer = answer ≡ Err fault

-- There is one list of assignments and events, from the control model before superstep 0 on, over which the job ended
-- so. Its events are what was received, without byes. Its assignments to each worker are what that worker was sent, in
-- order.
pub record EndedOver {J : Type 0} (work : Work) (honest : ℕ → Bool) (received : List (Message J)) (handed : List (List (Order J))) (answer : Result Report JobFault) : Type 0 where
  pub quiet : Bool
  pub first : IsQuietAt work 0 quiet
  pub moves : List Move
  pub are : AreMoves work honest (opened work.settings quiet) moves
  pub end : Machine
  pub leads : after (opened work.settings quiet) moves ≡ end
  pub took : stamps_in received ≡ events moves
  pub gave : (w : ℕ) → w < work.settings.workers → outs_in (at handed w) ≡ hands w moves
  pub answers : IsAnswerAt work honest end end.ending answer

-- There is one list of hands and events, from this control machine on, over which the job ended so.
pub record RanFrom {J : Type 0} (work : Work) (honest : ℕ → Bool) (first : Machine) (received : List (Message J)) (handed : List (List (Order J))) (answer : Result Report JobFault) : Type 0 where
  pub moves : List Move
  pub are : AreMoves work honest first moves
  pub end : Machine
  pub leads : after first moves ≡ end
  pub took : stamps_in received ≡ events moves
  pub gave : (w : ℕ) → w < work.settings.workers → outs_in (at handed w) ≡ hands w moves
  pub answers : IsAnswerAt work honest end end.ending answer

-- The same from the control machine on that has loaded the state before this superstep, or, where that can't be had, begins again
-- with superstep 0, which counts as a restart.
abbrev pub RanOn : {J : Type 0} → Work → (ℕ → Bool) → (superstep : ℕ) → List (Message J) → List (List (Order J)) → Result Report JobFault → Type 0
RanOn work honest superstep received handed answer =
    (heard : Heard) × RanFrom work honest (begun heard work.settings superstep) received handed answer

-- the units of each worker are the sum of those that were received from it, stale ones too
abbrev pub HasSpent : {J : Type 0} → ℕ → List (Message J) → Report → Type 0
HasSpent workers received report =
    (w : ℕ) → w < workers → slice_index_or report.spent.items w 0 ≡ cut (units_by w (stamps_in received))

-- ---- the answer and the Keep

-- what it may load is a checkpoint of a state that fits there
abbrev pub LoadsMadeAt : Work → (List ℕ → Type 0) → ℕ → Type 0
LoadsMadeAt work may_load superstep = (bytes : List ℕ) → may_load bytes → IsMadeAt work superstep bytes

module _ {K : Type 0} (honest : K → Bool) (saved : K → Option ℕ) (may_load : K → List ℕ → Type 0) (faults : K → ℕ) (work : Work) (trusted : ℕ → Bool) where
  -- The list of a `RanFrom`, and what each of its assignments and events leaves of the Keep. In the end the Keep has what the
  -- model counts as saved.
  pub record RanFromOver {J : Type 0} (first : Machine) (received : List (Message J)) (handed : List (List (Order J))) (keep keep' : K) (answer : Result Report JobFault) : Type 0 where
    pub ran : RanFrom work trusted first received handed answer
    pub kept : KeptAlong (IsKeptStep honest saved may_load faults work trusted) first keep ran.moves keep'
    pub keeps : KeepsFor work trusted (honest keep') (saved keep') (may_load keep') ran.end

  -- The list of an `EndedOver`, and what it leaves of the Keep. If the Keep loads only what was saved and its device never
  -- fails, no save is missed and the job never begins again.
  pub record EndedOverKeep {J : Type 0} (received : List (Message J)) (handed : List (List (Order J))) (keep keep' : K) (answer : Result Report JobFault) : Type 0 where
    pub ended : EndedOver work trusted received handed answer
    pub kept : KeptAlong (IsKeptStep honest saved may_load faults work trusted) (opened work.settings ended.quiet) keep ended.moves keep'
    pub keeps : KeepsFor work trusted (honest keep') (saved keep') (may_load keep') ended.end
    pub calm : LoadsNothingElse saved may_load → NeverFails faults → IsCalmAt ended.end

  -- The same for a job that goes on: the load at its start leaves the Keep `first`, and the list goes on from there. The job is
  -- calm if the Keep could load a checkpoint of a state that fits there, and nothing else.
  pub record RanOnOver {J : Type 0} (superstep : ℕ) (received : List (Message J)) (handed : List (List (Order J))) (keep keep' : K) (answer : Result Report JobFault) : Type 0 where
    pub heard : Heard
    pub first : K
    pub told : IsLoadResult work (honest keep) (honest first) (saved keep) (saved first) (may_load keep) (may_load first) (faults keep) (faults first) (Some superstep) heard.load
    pub over : RanFromOver (begun heard work.settings superstep) received handed first keep' answer
    pub calm : LoadsNothingElse saved may_load → NeverFails faults → LoadsMadeAt work (may_load keep) superstep → IsCalmAt over.ran.end

  -- Wherever a run stops, a list of assignments and events leads the Keep there. Its events are what was received in between,
  -- without byes. The Keep has what the model then counts as saved.
  pub record IsLeftBy {J : Type 0} (first : Machine) (received received' : List (Message J)) (keep keep' : K) : Type 0 where
    pub moves : List Move
    pub are : AreMoves work trusted first moves
    pub took : stamps_in received' ≡ stamps_in received ++ events moves
    pub kept : KeptAlong (IsKeptStep honest saved may_load faults work trusted) first keep moves keep'
    pub keeps : KeepsFor work trusted (honest keep') (saved keep') (may_load keep') (after first moves)

  -- ---- of a Keep that the job has for itself

  abbrev pub RanFromKeep : {J : Type 0} → Machine → List (Message J) → List (List (Order J)) → K → Result Report JobFault → Type 0
  RanFromKeep first received handed keep answer = (last : K) × RanFromOver first received handed keep last answer

  abbrev pub EndedOverOwn : {J : Type 0} → List (Message J) → List (List (Order J)) → K → Result Report JobFault → Type 0
  EndedOverOwn received handed keep answer = (last : K) × EndedOverKeep received handed keep last answer

  abbrev pub RanOnOwn : {J : Type 0} → (superstep : ℕ) → List (Message J) → List (List (Order J)) → K → Result Report JobFault → Type 0
  RanOnOwn superstep received handed keep answer = (last : K) × RanOnOver superstep received handed keep last answer

  -- The list alone, without what was received and sent. In it each worker sends events for the tasks that it was assigned alone, one
  -- result at most for each.
  pub record KeptRun (first : Machine) (keep : K) (answer : Result Report JobFault) : Type 0 where
    pub moves : List Move
    pub are : AreMoves work trusted first moves
    pub end : Machine
    pub leads : after first moves ≡ end
    pub last : K
    pub kept : KeptAlong (IsKeptStep honest saved may_load faults work trusted) first keep moves last
    pub returns : (w : ℕ) → w < work.settings.workers → IsWorkOn work trusted (hands w moves) (events_by w (events moves))
    pub answers : IsAnswerAt work trusted end end.ending answer

  -- from superstep 0 on
  abbrev pub IsKeptRun : K → Result Report JobFault → Type 0
  IsKeptRun keep answer = (quiet : Bool) × IsQuietAt work 0 quiet × KeptRun (opened work.settings quiet) keep answer

  -- from a superstep on whose state the Keep has, after the load of it
  abbrev pub IsKeptRunOn : (superstep : ℕ) → K → Result Report JobFault → Type 0
  IsKeptRunOn superstep keep answer =
      (heard : Heard) × (first : K)
      × IsLoadResult work (honest keep) (honest first) (saved keep) (saved first) (may_load keep) (may_load first) (faults keep) (faults first) (Some superstep) heard.load
      × KeptRun (begun heard work.settings superstep) first answer

-- no save was missed, and the job never began again
abbrev pub IsCalmReport : Report → Type 0
IsCalmReport report = (report.missed ≡ 0) × (report.restarts ≡ 0)

-- ---- by the answer

-- if the job was driven to its end
abbrev pub WhereEnded : Result Report JobFault → Type 0 → Type 0
WhereEnded (Ok report) P = P
WhereEnded (Err (OutOfMemory place)) P = P
WhereEnded (Err NoWorkers) P = P
WhereEnded (Err (Settings setting)) P = Unit {0}
WhereEnded (Err ThreadRefused) P = Unit {0}
WhereEnded (Err Closed) P = Unit {0}

-- the job was driven to its end
abbrev pub has_ended : Result Report JobFault → Bool
has_ended (Ok report) = true
has_ended (Err (OutOfMemory place)) = true
has_ended (Err NoWorkers) = true
has_ended (Err (Settings setting)) = false
has_ended (Err ThreadRefused) = false
has_ended (Err Closed) = false

-- if the book was opened before memory ran out
abbrev pub WhereOpened : Place → Type 0 → Type 0
WhereOpened place.Open P = Unit {0}
WhereOpened place.Call P = P
WhereOpened place.Slice P = P
WhereOpened place.Merge P = P
WhereOpened place.Save P = P
WhereOpened place.Load P = P
WhereOpened place.Channel P = P
WhereOpened place.Report P = P

-- if the book was opened and the job driven to its end
abbrev pub WhereRun : Result Report JobFault → Type 0 → Type 0
WhereRun (Ok report) P = P
WhereRun (Err (OutOfMemory place)) P = WhereOpened place P
WhereRun (Err NoWorkers) P = P
WhereRun (Err (Settings setting)) P = Unit {0}
WhereRun (Err ThreadRefused) P = Unit {0}
WhereRun (Err Closed) P = Unit {0}

-- if the channels and the book were opened before memory ran out
abbrev pub WhereConnected : Place → Type 0 → Type 0
WhereConnected place.Open P = Unit {0}
WhereConnected place.Call P = P
WhereConnected place.Slice P = P
WhereConnected place.Merge P = P
WhereConnected place.Save P = P
WhereConnected place.Load P = P
WhereConnected place.Channel P = Unit {0}
WhereConnected place.Report P = P

-- if the channels and the book were opened and the job driven to its end
abbrev pub WhereBegun : Result Report JobFault → Type 0 → Type 0
WhereBegun (Ok report) P = P
WhereBegun (Err (OutOfMemory place)) P = WhereConnected place P
WhereBegun (Err NoWorkers) P = P
WhereBegun (Err (Settings setting)) P = Unit {0}
WhereBegun (Err ThreadRefused) P = Unit {0}
WhereBegun (Err Closed) P = Unit {0}

-- if a thread could not be started
abbrev pub WhereRefused : Result Report JobFault → Type 0 → Type 0
WhereRefused (Ok report) P = Unit {0}
WhereRefused (Err (OutOfMemory place)) P = Unit {0}
WhereRefused (Err NoWorkers) P = Unit {0}
WhereRefused (Err (Settings setting)) P = Unit {0}
WhereRefused (Err ThreadRefused) P = P
WhereRefused (Err Closed) P = Unit {0}

-- a fault by which the job itself ends, or a closed channel
abbrev pub IsDriveFault : JobFault → Type 0
IsDriveFault (OutOfMemory place) = Unit {0}
IsDriveFault NoWorkers = Unit {0}
IsDriveFault (Settings setting) = ⊥
IsDriveFault ThreadRefused = ⊥
IsDriveFault Closed = Unit {0}

-- the same, or a thread that could not be started
abbrev pub IsRunFault : JobFault → Type 0
IsRunFault (OutOfMemory place) = Unit {0}
IsRunFault NoWorkers = Unit {0}
IsRunFault (Settings setting) = ⊥
IsRunFault ThreadRefused = Unit {0}
IsRunFault Closed = Unit {0}
