-- How the jobs of a session end that run in threads.
use Rattle.std.specs.Prelude.{◌≡◌, Result, Ok, Err}
use Rattle.job_state.specs.declared.fault.JobFault.{JobFault}
use Rattle.superstep.specs.Ending.{IsEndOf}
use Rattle.superstep.specs.Job.{Work}
use Rattle.coordinator.specs.JobAnswers.{IsCalmReport, IsRunFault}
use Rattle.book.specs.declared.report.Report.{Report}
use Rattle.session.specs.Runs.{Runs}

-- A run in threads ends with the end of the plain run and the units of each superstep from the first on, with no save missed and
-- no restart, or with a fault of a run in threads.
abbrev pub IsThreadedEnd : Work → Result Report JobFault → Type 0
IsThreadedEnd work (Ok report) = IsEndOf work report.ended × (report.ended.since ≡ 0) × IsCalmReport report
IsThreadedEnd work (Err fault) = IsRunFault fault

abbrev pub threaded : Runs
threaded = record { may_end = IsThreadedEnd }
