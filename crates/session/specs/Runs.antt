-- What contracts say of how jobs run.
use Rattle.std.specs.Prelude.{Result}
use Rattle.std.specs.Borrow.{Bor}
use Rattle.std.specs.Fn.{Shared}
use Rattle.job_state.specs.declared.fault.JobFault.{JobFault}
use Rattle.superstep.specs.Job.{Work}
use Rattle.book.specs.declared.report.Report.{Report}

-- the possible ends of a job's run
pub record Runs : Type 1 where
  pub may_end : Work → Result Report JobFault → Type 0

-- This function may be called for any job, and its runs may end so.
pub record EndsAs {F : Type 0} (runs : Runs) (calls : Shared F (Bor Work × Unit {0}) (Result Report JobFault)) (run : F) : Type 0 where
  pub callable : (job : Bor Work) → calls.pre run (job, tt)
  pub ends : (job : Bor Work) (end : Result Report JobFault) → calls.post run (job, tt) end → runs.may_end job.now end
