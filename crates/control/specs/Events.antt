-- What the control model does on events, and what it answers.
use Rattle.std.specs.Prelude.{ℕ, length, Bool, true, ◌&&◌, not, nat_lt, if◌then◌else◌, Option, Some, None, Result, Ok, Err}
use Rattle.job_state.specs.declared.fault.JobFault.{JobFault}
use Rattle.job_state.specs.declared.fault.JobFault.TheVariants.{NoWorkers, OutOfMemory}
use Rattle.job_state.specs.declared.fault.Place.{Place}
use Rattle.job_state.specs.declared.fault.Place.TheVariants.{Load, Merge, Save, Slice}
use Rattle.job_state.specs.declared.settings.Settings.{Settings}
use Rattle.control.specs.declared.control.Out.{Out}
use Rattle.control.specs.declared.job_status.JobStatus.{JobStatus}
use Rattle.control.specs.declared.job_status.JobStatus.TheVariants.{Running, Finished, Limit, Fault}
use Rattle.control.specs.declared.job_status.DeviceResult.{DeviceResult}
use Rattle.control.specs.declared.job_status.DeviceResult.TheVariants.{Failed, Good, NoMemory}
use Rattle.control.specs.declared.answer.Answer.{Answer}
use Rattle.control.specs.declared.answer.Answer.TheVariants.{Advanced, Ended, RolledBack, Stale, Taken}
use Rattle.control.specs.Machine.{Machine, aged, all_set, begun_anew, charged, closed, count_set, counts, ended_by, expired, finished, freed, has_answer, is_alive, is_busy, is_out, is_running, is_saved_now, joined, lost, may_join, one_more, restarted, resumed, waits, welcomed}

-- What the control model hears of the data in one event: whether the next superstep is quiet, how a save and a load
-- went, and whether there was memory.
pub record Heard : Type 0 where
  pub quiet : Bool
  -- for the barrier
  pub merged : Bool
  pub save : DeviceResult
  pub load : DeviceResult
  -- for slices
  pub sliced : Bool

-- ---- a superstep is closed

abbrev pub after_save : DeviceResult → Machine → Machine
after_save Good m = record m { saved = Some m.superstep }
after_save Failed m = record m { missed = one_more m.missed }
after_save NoMemory m = ended_by (OutOfMemory Save) m

abbrev pub saving : DeviceResult → Machine → Machine
saving told m = if is_saved_now m then after_save told m else m

-- if the job goes on, its state is cut into slices
abbrev pub slicing : Bool → Machine → Machine
slicing sliced m = if is_running m.ending && not sliced then ended_by (OutOfMemory Slice) m else m

abbrev pub advanced : Machine → Machine × Answer
advanced m = (m, (if is_running m.ending then Advanced m.superstep else Ended))

-- The next superstep; the save, if one is due; the slices; and then a new epoch for waiting workers.
abbrev pub shut : Heard → Machine → Machine × Answer
shut heard m =
    if heard.merged
    then advanced (welcomed (slicing heard.sliced (saving heard.save (closed heard.quiet m))))
    else (ended_by (OutOfMemory Merge) m, Ended)

abbrev pub closing : Heard → Machine → Machine × Answer
closing heard m = if all_set m.done then shut heard m else (m, Taken)

abbrev pub stale_done : Machine → ℕ → Out → Machine
stale_done m w task = if is_out m w task then freed m w else m

abbrev pub done_step : Heard → Machine → ℕ → Out → Machine × Answer
done_step heard m w task =
    if counts m w task then closing heard (finished (freed m w) task.part) else (stale_done m w task, Stale)

-- ---- workers are lost

-- with the remaining and the waiting workers
abbrev pub after_loss : Machine → Machine
after_loss m =
    if nat_lt 0 (count_set (joined m).alive) then begun_anew (joined m) else ended_by NoWorkers (joined m)

abbrev pub after_load : DeviceResult → Machine → Machine
after_load Good m = m
after_load Failed m = restarted m
after_load NoMemory m = ended_by (OutOfMemory Load) m

-- the state of superstep 0 is made again if nothing was saved
abbrev pub loading : Option ℕ → DeviceResult → Machine → Machine
loading None told m = m
loading (Some s) told m = after_load told m

abbrev pub rolled : Machine → Machine × Answer
rolled m = (m, (if is_running m.ending then RolledBack m.superstep else Ended))

abbrev pub rolling : Heard → Machine → Machine
rolling heard m = slicing heard.sliced (loading m.saved heard.load m)

abbrev pub loss : Heard → Machine → Machine × Answer
loss heard m = rolled (if is_running m.ending then rolling heard m else m)

abbrev pub lost_step : Heard → Machine → ℕ → Machine × Answer
lost_step heard m w = if is_alive m w then loss heard (after_loss (lost m w)) else (m, Stale)

abbrev pub overdue_lost : Heard → Machine → Machine × Answer
overdue_lost heard m =
    if nat_lt (count_set (expired m).alive) (count_set m.alive) then loss heard (after_loss (expired m)) else (m, Taken)

abbrev pub tick_step : Heard → Machine → Machine × Answer
tick_step heard m = overdue_lost heard (aged m)

-- ---- the others

abbrev pub failed_step : Machine → ℕ → Place → Machine × Answer
failed_step m w place = if is_busy m.alive m.out w then (ended_by (OutOfMemory place) m, Ended) else (m, Stale)

abbrev pub joined_step : Machine → ℕ → Machine × Answer
joined_step m w = if may_join m w then (waits m w, Taken) else (m, Stale)

-- an event without its data
pub data Stamp : Type 0 where
  DoneBy : (worker : ℕ) → (task : Out) → (units : ℕ) → Stamp
  FailedBy : (worker : ℕ) → (place : Place) → Stamp
  LostBy : (worker : ℕ) → Stamp
  JoinedBy : (worker : ℕ) → Stamp
  Ticked : Stamp

-- while the job runs, of a worker that exists
abbrev pub step : Heard → Machine → Stamp → Machine × Answer
step heard m (DoneBy w task units) = done_step heard (charged m w units) w task
step heard m (FailedBy w place) = failed_step m w place
step heard m (LostBy w) = lost_step heard m w
step heard m (JoinedBy w) = joined_step m w
step heard m Ticked = tick_step heard m

-- its worker is one of this many
abbrev pub is_known : ℕ → Stamp → Bool
is_known workers (DoneBy w task units) = nat_lt w workers
is_known workers (FailedBy w place) = nat_lt w workers
is_known workers (LostBy w) = nat_lt w workers
is_known workers (JoinedBy w) = nat_lt w workers
is_known workers Ticked = true

abbrev pub on_event : Heard → Machine → Stamp → Machine × Answer
on_event heard m stamp = if is_known (length m.alive) stamp then step heard m stamp else (m, Stale)

-- if the job has an answer, units are still added up
abbrev pub after_end : Machine → Stamp → Machine
after_end m (DoneBy w task units) = if has_answer m.ending && nat_lt w (length m.alive) then charged m w units else m
after_end m (FailedBy w place) = m
after_end m (LostBy w) = m
after_end m (JoinedBy w) = m
after_end m Ticked = m

-- the machine of a job that goes on before a superstep whose state was saved: as after a loss of all, the state is loaded
abbrev pub begun : Heard → Settings → (superstep : ℕ) → Machine
begun heard settings superstep = rolling heard (resumed settings superstep)

-- the machine after an event, and what it answers
abbrev pub accepted : Heard → Machine → Stamp → Machine × Answer
accepted heard m stamp = if is_running m.ending then on_event heard m stamp else (after_end m stamp, Ended)

-- the answer, or the fault by which the job ended
abbrev pub reply_by : JobStatus → Answer → Result Answer JobFault
reply_by Running answer = Ok answer
reply_by Finished answer = Ok answer
reply_by Limit answer = Ok answer
reply_by (Fault fault) answer = Err fault

abbrev pub reply_of : Machine × Answer → Result Answer JobFault
reply_of next = reply_by next.0.ending next.1
