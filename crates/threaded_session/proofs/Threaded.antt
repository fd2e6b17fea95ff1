-- How runs in threads end.
use Rattle.std.proofs.Common.{◌≡◌, Err, IfOk, Ok, refl, true}
use Rattle.std.specs.Prelude.{IfErr, Result}
use Rattle.book.specs.declared.report.Report.{Report}
use Rattle.job_state.specs.declared.fault.JobFault.{JobFault}
use Rattle.superstep.specs.Ending.{IsEndOf}
use Rattle.superstep.specs.Job.{Work}
use Rattle.superstep.specs.Tasks.{trusts}
use Rattle.superstep.proofs.Trusting.{trusts_sure}
use Rattle.coordinator.specs.JobAnswers.{IsCalmReport, IsRunFault}
use Rattle.threaded_session.specs.Runs.{IsThreadedEnd}

pub threaded_end : (work : Work) (end : Result Report JobFault) → IfOk end (λ report. trusts true report.epoch ≡ true → IsEndOf work report.ended)
    → IfOk end (λ report. trusts true report.epoch ≡ true → report.ended.since ≡ 0) → IfOk end IsCalmReport → IfErr end IsRunFault → IsThreadedEnd work end
threaded_end work (Ok report) answer since calm refused = let sure = trusts_sure true report.epoch refl in (answer sure, since sure, calm)
threaded_end work (Err fault) answer since calm refused = refused

pub plain_end : (work : Work) (end : Result Report JobFault) → IsThreadedEnd work end → IfOk end (λ report. IsEndOf work report.ended)
plain_end work (Ok report) ends = ends.0
plain_end work (Err fault) ends = tt
