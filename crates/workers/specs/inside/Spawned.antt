-- What a run ends with whose threads are started and joined in one scope.
use Rattle.std.specs.Prelude.{◌≡◌, ℕ, Bool, false, Option, Result, List, IfOk, IfErr}
use Rattle.superstep.specs.Job.{Work}
use Rattle.job_state.specs.declared.fault.JobFault.{JobFault}
use Rattle.control.specs.Machine.{Machine, count_set}
use Rattle.book.specs.declared.report.Report.{Report}
use Rattle.hub_ends.specs.Hub.{HasByes, IsSameHub, handed, received, staff}
use Rattle.worker_threads.specs.Threads.{HasSettled, IsIdle}
use Rattle.coordinator.specs.JobAnswers.{HasSpent, IsRunFault, RanFromKeep, WhereEnded, WhereRefused}
use Rattle.coordinator.specs.Joining.{JoinedFrom}
use Rattle.hub_ends.specs.declared.receipts.Receipts.{Receipts}
use Rattle.hub_ends.specs.declared.coordinator_ends.CoordinatorEnds.{CoordinatorEnds}

module _ {J K : Type 0} (honest : K → Bool) (saved : K → Option ℕ) (may_load : K → List ℕ → Type 0) (faults : K → ℕ) (work : Work) (trusted : ℕ → Bool) where
  -- these ends, receipts and answer, of a run from this book on
  pub record EndsSpawned (loses : Bool) (ends : CoordinatorEnds J) (book : Machine) (keep : K) (now : CoordinatorEnds J) (receipts : Option (Receipts J)) (answer : Result Report JobFault) : Type 0 where
    pub ran : WhereEnded answer (RanFromKeep honest saved may_load faults work trusted book (received now) (handed now) keep answer)
    pub joins : WhereEnded answer (JoinedFrom work trusted book (received now) (handed now) answer)
    pub byes : WhereEnded answer (HasByes (staff now) (received now))
    pub spent : IfOk answer (HasSpent (staff now) (received now))
    pub epoch : loses ≡ false → count_set book.waiting ≡ 0 → IfOk answer (λ report. report.epoch ≡ book.epoch)
    pub settled : WhereEnded answer (HasSettled now receipts)
    pub idle : WhereRefused answer (IsIdle now)
    pub refused : IfErr answer IsRunFault
    pub hub : IsSameHub ends now
