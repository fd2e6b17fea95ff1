-- How the jobs of a session end that run on one machine.
use Rattle.std.specs.Prelude.{◌≡◌, [], Result, Ok, Err}
use Rattle.job_state.specs.declared.fault.JobFault.{JobFault}
use Rattle.job_state.specs.declared.fault.JobFault.TheVariants as job_fault
use Rattle.superstep.specs.Ending.{IsEndOf}
use Rattle.superstep.specs.Job.{Work}
use Rattle.book.specs.declared.report.Report.{Report}
use Rattle.session.specs.Runs.{Runs}

-- the report has the end of the plain run, and no losses
pub record IsPlainReport (work : Work) (report : Report) : Type 0 where
  pub ends : IsEndOf work report.ended
  pub epoch : report.epoch ≡ 0
  pub missed : report.missed ≡ 0
  pub restarts : report.restarts ≡ 0
  pub spent : report.spent.items ≡ []

-- a run on one machine ends with such a report, or runs out of memory
abbrev pub IsPlainEnd : Work → Result Report JobFault → Type 0
IsPlainEnd work (Ok report) = IsPlainReport work report
IsPlainEnd work (Err (job_fault.OutOfMemory place)) = Unit {0}
IsPlainEnd work (Err fault) = ⊥

abbrev pub plain : Runs
plain = record { may_end = IsPlainEnd }
