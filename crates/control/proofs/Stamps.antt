-- Tasks and their results, in numbers.
use Rattle.std.proofs.Common.{◌≡◌, refl}
use Rattle.job_state.specs.Stamps.{DoneStamp, TaskStamp}
use Rattle.control.specs.Stamps.{done_out, task_out}

pub done_same : (done : DoneStamp) (task : TaskStamp) → done.epoch ≡ task.epoch → done.superstep ≡ task.superstep → done.part ≡ task.part → done_out done ≡ task_out task
done_same done task e f g = rw (e, f, g) refl
