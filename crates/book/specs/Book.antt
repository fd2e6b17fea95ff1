-- A book between two events, and what an event changes.
use Rattle.std.specs.Prelude.{◌≡◌, ℕ, suc, length, Bool, true, false, ◌&&◌, ◌||◌, not, nat_lt, Result}
use Rattle.job_state.specs.declared.fault.JobFault.{JobFault}
use Rattle.superstep.specs.Job.{Meaning, Work}
use Rattle.superstep.specs.PlainRun.{state_at}
use Rattle.superstep.specs.Snapshot.{is_quiet}
use Rattle.superstep.specs.Ending.{IsEndOf, is_finished}
use Rattle.book.specs.declared.report.Report.{Report}
use Rattle.book.specs.declared.report.Status.{Status}
use Rattle.control.specs.declared.answer.Answer.{Answer}
use Rattle.control.specs.declared.job_status.JobStatus.{JobStatus}
use Rattle.control.specs.declared.job_status.JobStatus.TheVariants.{Fault, Finished, Limit, Running}
use Rattle.control.specs.Machine.{Machine, is_alive, is_waiting}
use Rattle.control.specs.Events.{Heard, reply_of}

-- ---- an event

-- whether something is to be called at this superstep of the plain run
abbrev pub IsQuietAt : Work → ℕ → Bool → Type 0
IsQuietAt work s quiet = (meaning : Meaning work) → is_quiet (state_at meaning.outcomes meaning.graph s) ≡ quiet

-- One step of the control model. If it closes a superstep and the epoch is trusted, it hears whether the plain run is
-- quiet then.
pub record IsStep (work : Work) (honest : ℕ → Bool) (next : Heard → Machine × Answer) (before after : Machine) (reply : Result Answer JobFault) : Type 0 where
  pub heard : Heard
  pub quiet : honest before.epoch ≡ true → after.superstep ≡ suc before.superstep → IsQuietAt work (suc before.superstep) heard.quiet
  pub machine : (next heard).0 ≡ after
  pub told : reply ≡ reply_of (next heard)

-- this worker exists, is not alive and does not wait
abbrev pub is_gone : Machine → ℕ → Bool
is_gone m w = nat_lt w (length m.alive) && not (is_alive m w || is_waiting m w)

-- the status of the control model
pub record IsStatus (m : Machine) (status : Status) : Type 0 where
  pub superstep : status.superstep ≡ m.superstep
  pub epoch : status.epoch ≡ m.epoch
  pub missed : status.missed ≡ m.missed
  pub restarts : status.restarts ≡ m.restarts
  pub end : status.end ≡ m.ending

abbrev pub has_finished : JobStatus → Bool
has_finished Running = false
has_finished Finished = true
has_finished Limit = false
has_finished (Fault fault) = false

-- The control model's numbers. If its epoch is trusted, also the plain run's answer, with the units of each superstep
-- from 0 on.
pub record IsReport (work : Work) (honest : ℕ → Bool) (m : Machine) (report : Report) : Type 0 where
  pub finished : is_finished report.ended.how ≡ has_finished m.ending
  pub superstep : report.ended.superstep ≡ m.superstep
  pub epoch : report.epoch ≡ m.epoch
  pub missed : report.missed ≡ m.missed
  pub restarts : report.restarts ≡ m.restarts
  pub spent : report.spent.items ≡ m.spent
  pub answer : honest m.epoch ≡ true → IsEndOf work report.ended
  pub since : honest m.epoch ≡ true → report.ended.since ≡ 0
