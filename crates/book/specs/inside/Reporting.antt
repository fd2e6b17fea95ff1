-- The report of a state that a job ended with, and of its control.
use Rattle.std.specs.Prelude.{◌≡◌}
use Rattle.superstep.specs.Ending.{HasStopped, IsEndIn, IsEndOf}
use Rattle.superstep.specs.Job.{Work}
use Rattle.job_state.specs.State.{Standing}
use Rattle.book.specs.declared.report.Report.{Report}
use Rattle.control.specs.Machine.{Machine}

pub record IsReportIn (state : Standing) (m : Machine) (report : Report) : Type 0 where
  pub state_is : IsEndIn state report.ended
  pub end : (work : Work) → HasStopped work state → IsEndOf work report.ended
  pub epoch : report.epoch ≡ m.epoch
  pub missed : report.missed ≡ m.missed
  pub restarts : report.restarts ≡ m.restarts
  pub spent : report.spent.items ≡ m.spent
