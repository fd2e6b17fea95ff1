-- What a job that has an answer ended with.
use Rattle.std.proofs.Common.{◌≡◌, ◌≤◌, ℕ, Bool, true, false, sym, ◌∙◌, subst, arith}
use Rattle.superstep.specs.Ending.{HasStopped, WasBusy}
use Rattle.superstep.specs.Job.{Work}
use Rattle.job_state.specs.State.{Standing}
use Rattle.control.specs.declared.job_status.JobStatus.{JobStatus}
use Rattle.control.specs.declared.job_status.JobStatus.TheVariants.{Fault, Finished, Limit, Running}
use Rattle.book.specs.declared.job_data.JobData.{JobData}
use Rattle.book.specs.declared.job_data.JobData.TheVariants.{Nothing, Parts, Whole}
use Rattle.book.specs.declared.report.Report.{Report}
use Rattle.control.specs.Machine.{Machine, has_answer, is_running}
use Rattle.book.specs.Book.{IsReport, has_finished}
use Rattle.book.specs.inside.Book.{HasWhole, HoldsData, IsReached, IsWhole, StandsAt, is_fault}
use Rattle.book.specs.inside.Reporting.{IsReportIn}

running_no_answer : (e : JobStatus) → is_running e ≡ true → has_answer e ≡ true → ⊥
running_no_answer Running h a = cc
running_no_answer Finished h a = cc
running_no_answer Limit h a = cc
running_no_answer (Fault fault) h a = cc

fault_no_answer : (e : JobStatus) → is_fault e ≡ true → has_answer e ≡ true → ⊥
fault_no_answer Running h a = cc
fault_no_answer Finished h a = cc
fault_no_answer Limit h a = cc
fault_no_answer (Fault fault) h a = cc

-- a job that has an answer has the state that it ended with
pub has_whole : (work : Work) (honest : ℕ → Bool) (m : Machine) {J : _} (job_data : JobData J) → HoldsData work honest m job_data → has_answer m.ending ≡ true → HasWhole job_data
has_whole work honest m (Parts placement) h a = absurd (running_no_answer m.ending h.running a)
has_whole work honest m (Whole state) h a = tt
has_whole work honest m Nothing h a = absurd (fault_no_answer m.ending h a)

within : (work : Work) (e : JobStatus) (s : ℕ) → has_answer e ≡ true → StandsAt work e s → s ≤ work.settings.limit
within work Running s h at = absurd (cc)
within work Finished s h at = at.1
within work Limit s h at = let e = at.1 in omega (arith, e)
within work (Fault fault) s h at = absurd (cc)

last : (work : Work) (e : JobStatus) (s : ℕ) → has_answer e ≡ true → StandsAt work e s → has_finished e ≡ false → s ≡ work.settings.limit
last work Running s h at n = absurd (cc)
last work Finished s h at n = absurd (cc)
last work Limit s h at n = at.1
last work (Fault fault) s h at n = absurd (cc)

-- the plain run stops there
pub has_stopped : (work : Work) (honest : ℕ → Bool) (m : Machine) (state : Standing) → honest m.epoch ≡ true → IsWhole work honest m state → IsReached work m → HasStopped work state
has_stopped work honest m state sure x r = record {
  come = record {
    at = (x.at sure).at;
    has_ids = x.ids;
    within = subst (λ n. n ≤ work.settings.limit) (sym x.superstep) (within work m.ending m.superstep x.answer r.stands);
    busy = subst (λ n. WasBusy work n) (sym x.superstep) r.busy;
  };
  last = λ due. x.superstep ∙ last work m.ending m.superstep x.answer r.stands (sym x.quiet ∙ due);
}

pub reports : (work : Work) (honest : ℕ → Bool) (m : Machine) (state : Standing) (report : Report) → IsWhole work honest m state → (honest m.epoch ≡ true → IsReached work m) → IsReportIn state m report → IsReport work honest m report
reports work honest m state report x reached is = record {
  finished = is.state_is.how ∙ x.quiet;
  superstep = is.state_is.superstep ∙ x.superstep;
  epoch = is.epoch;
  missed = is.missed;
  restarts = is.restarts;
  spent = is.spent;
  since = λ sure. is.state_is.since ∙ (x.at sure).since;
  answer = λ sure. is.end work (has_stopped work honest m state sure x (reached sure));
}
