-- The state of the event loop.
use Rattle.std.specs.Prelude.{◌≡◌, ◌<◌, ℕ, List, Bool, true, false, length, replicate}
use Rattle.job_state.specs.declared.fault.JobFault.{JobFault}
use Rattle.job_state.specs.declared.fault.JobFault.TheVariants.{Closed, NoWorkers, OutOfMemory, Settings, ThreadRefused}
use Rattle.superstep.specs.Job.{Work}
use Rattle.control.specs.declared.job_status.JobStatus.{JobStatus}
use Rattle.control.specs.declared.job_status.JobStatus.TheVariants.{Fault, Finished, Limit, Running}
use Rattle.control.specs.Machine.{Machine, is_running}
use Rattle.hub_ends.specs.declared.order.Order.{Order}
use Rattle.hub_ends.specs.Hub.{IsStopped, staff}
use Rattle.coordinator.specs.Steps.{KeptAlong, Steps}
use Rattle.hub_ends.specs.declared.coordinator_ends.CoordinatorEnds.{CoordinatorEnds}
use Rattle.hub_ends.specs.declared.message.Message.{Message}

-- the job has ended, and every worker was stopped
pub record IsOver {J : Type 0} (book : Machine) (ends : CoordinatorEnds J) : Type 0 where
  pub ended : is_running book.ending ≡ false
  pub stopped : (w : ℕ) → w < staff ends → IsStopped ends w

-- a fault of the book's own: there is no memory, or no worker
abbrev pub is_own_fault : JobFault → Bool
is_own_fault (OutOfMemory place) = true
is_own_fault NoWorkers = true
is_own_fault (Settings setting) = false
is_own_fault ThreadRefused = false
is_own_fault Closed = false

abbrev pub is_own : JobStatus → Bool
is_own Running = true
is_own Finished = true
is_own Limit = true
is_own (Fault fault) = is_own_fault fault

-- a book that has handed out and taken nothing
pub record IsUnspent (work : Work) (m : Machine) : Type 0 where
  pub own : is_own m.ending ≡ true
  pub spent : m.spent ≡ replicate work.settings.workers 0
  pub width : length m.alive ≡ work.settings.workers

-- steps, and what they leave of the Keep
pub record StepsOver {J K : Type 0} (over : Machine → Machine → K → K → Type 0) (work : Work) (honest : ℕ → Bool) (before now : Machine) (received received' : List (Message J)) (handed handed' : List (List (Order J))) (keep keep' : K) : Type 0 where
  pub steps : Steps work honest before now received received' handed handed'
  pub kept : KeptAlong over before keep steps.moves keep'
