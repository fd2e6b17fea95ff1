-- What a job that was run in threads tells, in epochs that are trusted.
use Rattle.std.proofs.Common.{◌≡◌, ◌∙◌, ℕ, ◌<◌, Bool, true, List, Option, Result, Ok, Err, IfOk, subst, sym}
use Rattle.superstep.specs.Ending.{IsEndOf}
use Rattle.superstep.specs.Job.{Work}
use Rattle.job_state.specs.declared.fault.JobFault.{JobFault}
use Rattle.job_state.specs.declared.fault.JobFault.TheVariants.{Closed, NoWorkers, OutOfMemory, Settings, ThreadRefused}
use Rattle.job_state.specs.declared.fault.Place.{Place}
use Rattle.job_state.specs.declared.fault.Place.TheVariants as place
use Rattle.book.specs.declared.report.Report.{Report}
use Rattle.control.specs.Machine.{Machine}
use Rattle.coordinator.specs.JobAnswers.{EndedOver, EndedOverOwn, IsKeptRun, IsKeptRunOn, RanOn, RanOnOwn, WhereBegun, WhereConnected, WhereOpened, WhereRun}
use Rattle.coordinator.specs.Joining.{JoinedFrom, JoinedOn, JoinedOver}
use Rattle.worker_loops.specs.Returns.{IsWorkOn, events_by}
use Rattle.coordinator.specs.Steps.{Move, events, hands}
use Rattle.worker_loops.specs.Numbers.{outs_in, stamps_in}
use Rattle.hub_ends.specs.declared.message.Message.{Message}
use Rattle.hub_ends.specs.Orders.{at}
use Rattle.hub_ends.specs.declared.order.Order.{Order}
use Rattle.coordinator.proofs.Ending.{answers_report}

module _ {J : Type 0} (work : Work) (honest : ℕ → Bool) (received : List (Message J)) (handed : List (List (Order J))) where
  pub answer_told : (r : Result Report JobFault) → WhereRun r (EndedOver work honest received handed r)
      → IfOk r (λ report. honest report.epoch ≡ true → IsEndOf work report.ended)
  answer_told (Ok report) ran = λ sure.
      let is = (answers_report work honest ran.end ran.end.ending report ran.answers).1 in
      is.answer (subst (λ n. honest n ≡ true) is.epoch sure)
  answer_told (Err fault) ran = tt

  pub since_told : (r : Result Report JobFault) → WhereRun r (EndedOver work honest received handed r)
      → IfOk r (λ report. honest report.epoch ≡ true → report.ended.since ≡ 0)
  since_told (Ok report) ran = λ sure.
      let is = (answers_report work honest ran.end ran.end.ending report ran.answers).1 in
      is.since (subst (λ n. honest n ≡ true) is.epoch sure)
  since_told (Err fault) ran = tt

  pub answer_told_on : (superstep : ℕ) (r : Result Report JobFault) → WhereRun r (RanOn work honest superstep received handed r) → ((epoch : ℕ) → honest epoch ≡ true)
      → IfOk r (λ report. IsEndOf work report.ended)
  answer_told_on superstep (Ok report) ran sure = (answers_report work honest ran.1.end ran.1.end.ending report ran.1.answers).1.answer (sure ran.1.end.epoch)
  answer_told_on superstep (Err fault) ran sure = tt

  pub since_told_on : (superstep : ℕ) (r : Result Report JobFault) → WhereRun r (RanOn work honest superstep received handed r) → ((epoch : ℕ) → honest epoch ≡ true)
      → IfOk r (λ report. report.ended.since ≡ 0)
  since_told_on superstep (Ok report) ran sure = (answers_report work honest ran.1.end ran.1.end.ending report ran.1.answers).1.since (sure ran.1.end.epoch)
  since_told_on superstep (Err fault) ran sure = tt

-- ---- by the answer

connected : (of : Place) (P R Q : Type 0) → (P → R → Q) → WhereOpened of P → WhereOpened of R → WhereConnected of Q
connected place.Open P R Q f p r = tt
connected place.Call P R Q f p r = f p r
connected place.Slice P R Q f p r = f p r
connected place.Merge P R Q f p r = f p r
connected place.Save P R Q f p r = f p r
connected place.Load P R Q f p r = f p r
connected place.Channel P R Q f p r = tt
connected place.Report P R Q f p r = f p r

where_begun : (r : Result Report JobFault) (P R Q : Type 0) → (P → R → Q) → WhereRun r P → WhereRun r R → WhereBegun r Q
where_begun (Ok report) P R Q f p r = f p r
where_begun (Err (OutOfMemory place)) P R Q f p r = connected place P R Q f p r
where_begun (Err NoWorkers) P R Q f p r = f p r
where_begun (Err (Settings setting)) P R Q f p r = tt
where_begun (Err ThreadRefused) P R Q f p r = tt
where_begun (Err Closed) P R Q f p r = tt

-- ---- what workers sent in two lists of what was sent and received

module _ {J : Type 0} (work : Work) (honest : ℕ → Bool) (first : Machine) (received : List (Message J)) (handed : List (List (Order J))) (r : Result Report JobFault) where
  returns_in : (moves : List Move) → stamps_in received ≡ events moves → ((w : ℕ) → w < work.settings.workers → outs_in (at handed w) ≡ hands w moves) → JoinedFrom work honest first received handed r
      → (w : ℕ) → w < work.settings.workers → IsWorkOn work honest (hands w moves) (events_by w (events moves))
  returns_in moves took gave j w h =
      subst (λ l. IsWorkOn work honest l (events_by w (events moves))) (sym (j.ran.gave w h) ∙ gave w h)
      (subst (λ l. IsWorkOn work honest (hands w j.ran.moves) (events_by w l)) (sym j.ran.took ∙ took) (j.returns w h))

-- ---- the list alone, and the Keep

module _ {K : Type 0} (honest : K → Bool) (saved : K → Option ℕ) (may_load : K → List ℕ → Type 0) (faults : K → ℕ) (work : Work) (trusted : ℕ → Bool) where
  module _ {J : Type 0} (received : List (Message J)) (handed : List (List (Order J))) (keep : K) (r : Result Report JobFault) where
    kept_of : EndedOverOwn honest saved may_load faults work trusted received handed keep r → JoinedOver work trusted received handed r → IsKeptRun honest saved may_load faults work trusted keep r
    kept_of x j = let e = x.1.ended in (
      e.quiet,
      e.first,
      record {
        moves = e.moves;
        are = e.are;
        end = e.end;
        leads = e.leads;
        last = x.0;
        kept = x.1.kept;
        returns = returns_in work trusted _ received handed r e.moves e.took e.gave j.2;
        answers = e.answers;
      },
    )

    kept_on : (superstep : ℕ) → RanOnOwn honest saved may_load faults work trusted superstep received handed keep r → JoinedOn work trusted superstep received handed r → IsKeptRunOn honest saved may_load faults work trusted superstep keep r
    kept_on superstep x j = let p = x.1.over.ran in (
      x.1.heard,
      x.1.first,
      x.1.told,
      record {
        moves = p.moves;
        are = p.are;
        end = p.end;
        leads = p.leads;
        last = x.0;
        kept = x.1.over.kept;
        returns = returns_in work trusted _ received handed r p.moves p.took p.gave j.1;
        answers = p.answers;
      },
    )

    pub kept_told : WhereRun r (EndedOverOwn honest saved may_load faults work trusted received handed keep r) → WhereRun r (JoinedOver work trusted received handed r) → WhereBegun r (IsKeptRun honest saved may_load faults work trusted keep r)
    kept_told = where_begun r _ _ _ kept_of

    pub kept_told_on : (superstep : ℕ) → WhereRun r (RanOnOwn honest saved may_load faults work trusted superstep received handed keep r) → WhereRun r (JoinedOn work trusted superstep received handed r) → WhereBegun r (IsKeptRunOn honest saved may_load faults work trusted superstep keep r)
    kept_told_on superstep = where_begun r _ _ _ (kept_on superstep)
