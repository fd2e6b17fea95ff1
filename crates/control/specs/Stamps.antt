-- Tasks, results and events, in numbers.
use Rattle.job_state.specs.Stamps.{DoneStamp, TaskStamp}
use Rattle.control.specs.Events.{Stamp}
use Rattle.control.specs.Events.Stamp.{DoneBy, FailedBy, JoinedBy, LostBy, Ticked}
use Rattle.control.specs.declared.control.Out.{Out}
use Rattle.control.specs.declared.event.Event.{Event}
use Rattle.control.specs.declared.event.Event.TheVariants as event

abbrev pub task_out : TaskStamp → Out
task_out task = record { epoch = task.epoch; superstep = task.superstep; part = task.part }

abbrev pub done_out : DoneStamp → Out
done_out done = record { epoch = done.epoch; superstep = done.superstep; part = done.part }

-- events, in numbers
abbrev pub stamp_of : {J : _} → Event J → Stamp
stamp_of (event.Done w done) = DoneBy w (done_out done) done.units
stamp_of (event.Failed w place) = FailedBy w place
stamp_of (event.Lost w) = LostBy w
stamp_of (event.Joined w) = JoinedBy w
stamp_of event.Tick = Ticked
