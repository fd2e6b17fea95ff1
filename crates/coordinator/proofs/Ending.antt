-- What the end of a list of hands and events says of the answer.
use Rattle.std.proofs.Common.{◌≡◌, ◌<◌, ℕ, Bool, true, false, Option, Some, List, [], ◌++◌, length, slice_index_or, Result, Ok, Err, IfErr, IfOk, refl, sym, ap, ◌∙◌, subst}
use Rattle.superstep.specs.Job.{Work}
use Rattle.job_state.specs.declared.fault.JobFault.{JobFault}
use Rattle.job_state.specs.declared.fault.JobFault.TheVariants.{Closed, NoWorkers, OutOfMemory, Settings, ThreadRefused}
use Rattle.job_state.specs.declared.fault.Place.{Place}
use Rattle.job_state.specs.declared.fault.Place.TheVariants as place
use Rattle.control.specs.declared.job_status.JobStatus.{JobStatus}
use Rattle.control.specs.declared.job_status.JobStatus.TheVariants.{Fault, Finished, Limit, Running}
use Rattle.book.specs.declared.report.Report.{Report}
use Rattle.book.specs.Book.{IsQuietAt, IsReport}
use Rattle.checkpoint.specs.Keep.{LoadsNothingElse}
use Rattle.book.specs.Saving.{IsKeptStep, IsLoadResult, KeepsFor}
use Rattle.book.specs.Calm.{NeverFails}
use Rattle.control.specs.Events.{Heard, begun}
use Rattle.control.specs.Machine.{Machine, has_answer, opened}
use Rattle.coordinator.specs.JobAnswers.{HasSpent, IsAnswerAt, IsCalmReport, IsDriveFault, IsOpened, IsRunFault, IsTold, EndedOver, EndedOverKeep, EndedOverOwn, LoadsMadeAt, RanFrom, RanFromKeep, RanFromOver, RanOn, RanOnOver, RanOnOwn, WhereEnded, WhereOpened, WhereRefused, WhereRun, has_ended}
use Rattle.hub_ends.specs.Orders.{at}
use Rattle.coordinator.specs.Joining.{JoinedFrom, JoinedOn, JoinedOver}
use Rattle.coordinator.specs.Steps.{AreMoves, KeptAlong, Steps, after, events, hands}
use Rattle.worker_loops.specs.Numbers.{outs_in, stamps_in}
use Rattle.coordinator.specs.inside.EventLoop.{IsUnspent, StepsOver, is_own, is_own_fault}
use Rattle.coordinator.specs.inside.Told.{StepsTold, ToldFrom}
use Rattle.hub_ends.specs.declared.message.Message.{Message}
use Rattle.hub_ends.specs.declared.order.Order.{Order}
use Rattle.coordinator.proofs.Accounts.{begun_unspent, opened_unspent, spent_of}
use Rattle.coordinator.proofs.Calm.{calm_begun, calm_opened}
use Rattle.coordinator.proofs.Faults.{steps_own}

-- ---- by what is answered

pub where_ended : (r : Result Report JobFault) (P : Type 0) → P → WhereEnded r P
where_ended (Ok report) P p = p
where_ended (Err (OutOfMemory place)) P p = p
where_ended (Err NoWorkers) P p = p
where_ended (Err (Settings setting)) P p = tt
where_ended (Err ThreadRefused) P p = tt
where_ended (Err Closed) P p = tt

-- what is said where the job ended, by what is said there
pub where_mapped : (r : Result Report JobFault) (P Q : Type 0) → (P → Q) → WhereEnded r P → WhereEnded r Q
where_mapped (Ok report) P Q f p = f p
where_mapped (Err (OutOfMemory place)) P Q f p = f p
where_mapped (Err NoWorkers) P Q f p = f p
where_mapped (Err (Settings setting)) P Q f p = tt
where_mapped (Err ThreadRefused) P Q f p = tt
where_mapped (Err Closed) P Q f p = tt

pub where_two : (r : Result Report JobFault) (P Q R : Type 0) → (P → Q → R) → WhereEnded r P → WhereEnded r Q → WhereEnded r R
where_two (Ok report) P Q R f p q = f p q
where_two (Err (OutOfMemory place)) P Q R f p q = f p q
where_two (Err NoWorkers) P Q R f p q = f p q
where_two (Err (Settings setting)) P Q R f p q = tt
where_two (Err ThreadRefused) P Q R f p q = tt
where_two (Err Closed) P Q R f p q = tt

pub not_ended : (r : Result Report JobFault) (P : Type 0) → has_ended r ≡ false → WhereEnded r P
not_ended (Ok report) P e = absurd (cc)
not_ended (Err (OutOfMemory place)) P e = absurd (cc)
not_ended (Err NoWorkers) P e = absurd (cc)
not_ended (Err (Settings setting)) P e = tt
not_ended (Err ThreadRefused) P e = tt
not_ended (Err Closed) P e = tt

opened_at : (of : Place) (P : Type 0) → P → WhereOpened of P
opened_at place.Open P p = tt
opened_at place.Call P p = p
opened_at place.Slice P p = p
opened_at place.Merge P p = p
opened_at place.Save P p = p
opened_at place.Load P p = p
opened_at place.Channel P p = p
opened_at place.Report P p = p

pub where_run : (r : Result Report JobFault) (P : Type 0) → WhereEnded r P → WhereRun r P
where_run (Ok report) P p = p
where_run (Err (OutOfMemory place)) P p = opened_at place P p
where_run (Err NoWorkers) P p = p
where_run (Err (Settings setting)) P p = tt
where_run (Err ThreadRefused) P p = tt
where_run (Err Closed) P p = tt

pub not_refused : (r : Result Report JobFault) (P : Type 0) → IfErr r IsDriveFault → WhereRefused r P
not_refused (Ok report) P h = tt
not_refused (Err (OutOfMemory place)) P h = tt
not_refused (Err NoWorkers) P h = tt
not_refused (Err (Settings setting)) P h = tt
not_refused (Err ThreadRefused) P h = absurd h
not_refused (Err Closed) P h = tt

pub run_fault : (r : Result Report JobFault) → IfErr r IsDriveFault → IfErr r IsRunFault
run_fault (Ok report) h = tt
run_fault (Err (OutOfMemory place)) h = tt
run_fault (Err NoWorkers) h = tt
run_fault (Err (Settings setting)) h = absurd h
run_fault (Err ThreadRefused) h = absurd h
run_fault (Err Closed) h = tt

-- ---- the answer

pub answer_fault : (work : Work) (honest : ℕ → Bool) (m : Machine) (fault : JobFault) → Fault fault ≡ m.ending → IsAnswerAt work honest m m.ending (Err fault)
answer_fault work honest m fault e = subst (λ x. IsAnswerAt work honest m x (Err fault)) e refl

told : (work : Work) (honest : ℕ → Bool) (m : Machine) (end : JobStatus) (r : Result Report JobFault) → has_answer end ≡ true → IsTold work honest m r → IsAnswerAt work honest m end r
told work honest m Running r h is = absurd (cc)
told work honest m Finished r h is = is
told work honest m Limit r h is = is
told work honest m (Fault fault) r h is = absurd (cc)

pub answer_told : (work : Work) (honest : ℕ → Bool) (m : Machine) (r : Result Report JobFault) → has_answer m.ending ≡ true → IsTold work honest m r → IsAnswerAt work honest m m.ending r
answer_told work honest m r h is = told work honest m m.ending r h is

pub answers_report : (work : Work) (honest : ℕ → Bool) (m : Machine) (end : JobStatus) (report : Report) → IsAnswerAt work honest m end (Ok report) → (has_answer end ≡ true) × IsReport work honest m report
answers_report work honest m Running report is = absurd is
answers_report work honest m Finished report is = (refl, is)
answers_report work honest m Limit report is = (refl, is)
answers_report work honest m (Fault fault) report is = absurd (cc)

own_fault : (fault : JobFault) → is_own_fault fault ≡ true → IsDriveFault fault
own_fault (OutOfMemory place) h = tt
own_fault NoWorkers h = tt
own_fault (Settings setting) h = absurd (cc)
own_fault ThreadRefused h = absurd (cc)
own_fault Closed h = tt

told_fault : (work : Work) (honest : ℕ → Bool) (m : Machine) (r : Result Report JobFault) → IsTold work honest m r → IfErr r IsDriveFault
told_fault work honest m (Ok report) is = tt
told_fault work honest m (Err fault) is = subst IsDriveFault (sym is) tt

fault_at : (work : Work) (honest : ℕ → Bool) (m : Machine) (end : JobStatus) (r : Result Report JobFault) → is_own end ≡ true → IsAnswerAt work honest m end r → IfErr r IsDriveFault
fault_at work honest m Running r h is = absurd is
fault_at work honest m Finished r h is = told_fault work honest m r is
fault_at work honest m Limit r h is = told_fault work honest m r is
fault_at work honest m (Fault fault) r h is = subst (λ x. IfErr x IsDriveFault) (sym is) (own_fault fault h)

module _ {J : Type 0} (work : Work) (honest : ℕ → Bool) (m n : Machine) (got got' : List (Message J)) (ls ls' : List (List (Order J))) where
  pub drive_fault : (r : Result Report JobFault) → Steps work honest m n got got' ls ls' → IsUnspent work m → IsAnswerAt work honest n n.ending r → IfErr r IsDriveFault
  drive_fault r p u is = fault_at work honest n n.ending r (steps_own work honest m n got got' ls ls' p u.own) is

  pub ran_of : (r : Result Report JobFault) → Steps work honest m n got got' ls ls' → got ≡ [] → ((w : ℕ) → at ls w ≡ []) → work.settings.workers ≡ length ls
      → IsAnswerAt work honest n n.ending r → RanFrom work honest m got' ls' r
  ran_of r p none empty many is = record {
    moves = p.moves;
    are = p.are;
    end = n;
    leads = p.leads;
    took = p.took ∙ ap (λ l. stamps_in l ++ events p.moves) none;
    gave = λ w h. p.gave w (subst (λ (k : ℕ). w < k) many h) ∙ ap (λ l. outs_in l ++ hands w p.moves) (empty w);
    answers = is;
  }

  pub told_from : {K : Type 0} (kept : Machine → Machine → K → K → Type 0) (k k' : K) (told : List (List Bool)) (r : Result Report JobFault) → StepsTold kept work honest m n got got' ls ls' k k' told
      → got ≡ [] → ((w : ℕ) → at ls w ≡ []) → work.settings.workers ≡ length ls → IsAnswerAt work honest n n.ending r → ToldFrom work honest m got' ls' told r
  unfolding ran_of
  told_from kept k k' told r p none empty many is = record { ran = ran_of r p.over.steps none empty many is; told_is = p.told_is }

  pub has_spent : (r : Result Report JobFault) (k : ℕ) → Steps work honest m n got got' ls ls' → IsUnspent work m → got ≡ [] → k ≡ work.settings.workers
      → IsAnswerAt work honest n n.ending r → IfOk r (HasSpent k got')
  has_spent (Ok report) k p u none many is =
      let a = answers_report work honest n n.ending report is in
      λ w h. ap (λ l. slice_index_or l w 0) a.1.spent ∙ spent_of work honest m n got got' ls ls' p u a.0 none w (subst (λ (x : ℕ). w < x) many h)
  has_spent (Err fault) k p u none many is = tt

-- ---- where it began

module _ {J : Type 0} (work : Work) (honest : ℕ → Bool) (m : Machine) (got : List (Message J)) (ls : List (List (Order J))) (r : Result Report JobFault) where
  -- from an opened book on
  pub ran_opened : IsOpened work m → RanFrom work honest m got ls r → EndedOver work honest got ls r
  ran_opened o p = record {
    quiet = o.0;
    first = o.1;
    moves = p.moves;
    are = subst (λ (x : Machine). AreMoves work honest x p.moves) o.2 p.are;
    end = p.end;
    leads = ap (λ (x : Machine). after x p.moves) (sym o.2) ∙ p.leads;
    took = p.took;
    gave = p.gave;
    answers = p.answers;
  }

  pub joined_opened : IsOpened work m → JoinedFrom work honest m got ls r → JoinedOver work honest got ls r
  joined_opened o p = (o.0, o.1, subst (λ (x : Machine). JoinedFrom work honest x got ls r) o.2 p)

  pub joined_begun : (superstep : ℕ) (heard : Heard) → m ≡ begun heard work.settings superstep → JoinedFrom work honest m got ls r → JoinedOn work honest superstep got ls r
  joined_begun superstep heard is p = (heard, subst (λ (x : Machine). JoinedFrom work honest x got ls r) is p)

  -- from a book on that goes on
  pub ran_begun : (superstep : ℕ) (heard : Heard) → m ≡ begun heard work.settings superstep → RanFrom work honest m got ls r → RanOn work honest superstep got ls r
  ran_begun superstep heard is p = (heard, subst (λ (x : Machine). RanFrom work honest x got ls r) is p)

-- what `Book::open` promises of a job that a type names
pub opened_of : (own work : Work) (m : Machine) → own ≡ work → ((quiet : Bool) × IsQuietAt own 0 quiet × (m ≡ opened work.settings quiet)) → IsOpened own m
opened_of own work m same is = subst (λ (w : Work). (quiet : Bool) × IsQuietAt own 0 quiet × (m ≡ opened w.settings quiet)) (sym same) is

-- an opened book has handed out and taken nothing
pub unspent_opened : (work : Work) (m : Machine) → IsOpened work m → IsUnspent work m
unspent_opened work m o = subst (λ (x : Machine). IsUnspent work x) (sym o.2) (opened_unspent work o.0)

-- nor has one that goes on
pub unspent_begun : (work : Work) (m : Machine) (heard : Heard) (superstep : ℕ) → m ≡ begun heard work.settings superstep → IsUnspent work m
unspent_begun work m heard superstep is = subst (λ (x : Machine). IsUnspent work x) (sym is) (begun_unspent work heard superstep)

-- ---- the Keep

-- a book that was opened counts nothing as saved
pub keeps_first : (work : Work) (trusted : ℕ → Bool) (honest : Bool) (kept : _) (may_load : List ℕ → Type 0) (m : Machine) → IsOpened work m → (trusted 1 ≡ true → honest ≡ true) → KeepsFor work trusted honest kept may_load m
keeps_first work trusted honest kept may_load m o sure =
    let none = ap (λ (x : Machine). x.saved) o.2 in
    record {
      trusts = sure;
      saved = λ s e. let z = sym none ∙ e in absurd (cc);
      bytes = λ t s e. let z = sym none ∙ e in absurd (cc);
    }

calm_report : (work : Work) (trusted : ℕ → Bool) (m : Machine) (report : Report) → (m.missed ≡ 0) × (m.restarts ≡ 0) → IsAnswerAt work trusted m m.ending (Ok report) → IsCalmReport report
calm_report work trusted m report calm is =
    let a = answers_report work trusted m m.ending report is in
    (a.1.missed ∙ calm.0, a.1.restarts ∙ calm.1)

module _ {K : Type 0} (honest : K → Bool) (saved : K → Option ℕ) (may_load : K → List ℕ → Type 0) (faults : K → ℕ) (work : Work) (trusted : ℕ → Bool) where
  abbrev Kept : Machine → Machine → K → K → Type 0
  Kept = IsKeptStep honest saved may_load faults work trusted

  module _ {J : Type 0} where
    pub ran_over : (m n : Machine) (got got' : List (Message J)) (ls ls' : List (List (Order J))) (k k' : K) (r : Result Report JobFault)
        → StepsOver Kept work trusted m n got got' ls ls' k k' → got ≡ [] → ((w : ℕ) → at ls w ≡ []) → work.settings.workers ≡ length ls
        → KeepsFor work trusted (honest k') (saved k') (may_load k') n → IsAnswerAt work trusted n n.ending r
        → RanFromOver honest saved may_load faults work trusted m got' ls' k k' r
    unfolding ran_of
    ran_over m n got got' ls ls' k k' r p none empty many keeps is = record {
      ran = ran_of work trusted m n got got' ls ls' r p.steps none empty many is;
      kept = p.kept;
      keeps = keeps;
    }

    -- from an opened book on
    pub over_opened : (m : Machine) (got : List (Message J)) (ls : List (List (Order J))) (k k' : K) (r : Result Report JobFault)
        → IsOpened work m → RanFromOver honest saved may_load faults work trusted m got ls k k' r → EndedOverKeep honest saved may_load faults work trusted got ls k k' r
    unfolding ran_opened
    over_opened m got ls k k' r o p =
        let kept : KeptAlong Kept (opened work.settings o.0) k p.ran.moves k' = subst (λ (x : Machine). KeptAlong Kept x k p.ran.moves k') o.2 p.kept in
        record {
          ended = ran_opened work trusted m got ls r o p.ran;
          kept = kept;
          keeps = p.keeps;
          calm = calm_opened honest saved may_load faults work trusted o.0 p.ran.moves k k' p.ran.end (ap (λ (x : Machine). after x p.ran.moves) (sym o.2) ∙ p.ran.leads) kept;
        }

    pub own_opened : (m : Machine) (got : List (Message J)) (ls : List (List (Order J))) (k : K) (r : Result Report JobFault)
        → IsOpened work m → RanFromKeep honest saved may_load faults work trusted m got ls k r → EndedOverOwn honest saved may_load faults work trusted got ls k r
    own_opened m got ls k r o p = (p.0, over_opened m got ls k p.0 r o p.1)

    -- from a book on that goes on
    over_begun : (superstep : ℕ) (heard : Heard) (got : List (Message J)) (ls : List (List (Order J))) (k k1 k' : K) (r : Result Report JobFault)
        → IsLoadResult work (honest k) (honest k1) (saved k) (saved k1) (may_load k) (may_load k1) (faults k) (faults k1) (Some superstep) heard.load
        → RanFromOver honest saved may_load faults work trusted (begun heard work.settings superstep) got ls k1 k' r
        → RanOnOver honest saved may_load faults work trusted superstep got ls k k' r
    over_begun superstep heard got ls k k1 k' r told p = record {
      heard = heard;
      first = k1;
      told = told;
      over = p;
      calm = calm_begun honest saved may_load faults work trusted superstep heard k k1 k' p.ran.moves p.ran.end told p.ran.leads p.kept;
    }

    pub own_begun : (superstep : ℕ) (heard : Heard) (m : Machine) (got : List (Message J)) (ls : List (List (Order J))) (k k1 : K) (r : Result Report JobFault)
        → m ≡ begun heard work.settings superstep
        → IsLoadResult work (honest k) (honest k1) (saved k) (saved k1) (may_load k) (may_load k1) (faults k) (faults k1) (Some superstep) heard.load
        → RanFromKeep honest saved may_load faults work trusted m got ls k1 r
        → RanOnOwn honest saved may_load faults work trusted superstep got ls k r
    own_begun superstep heard m got ls k k1 r is told p =
        (p.0, over_begun superstep heard got ls k k1 p.0 r told (subst (λ (x : Machine). RanFromOver honest saved may_load faults work trusted x got ls k1 p.0 r) is p.1))

    -- ---- without what it leaves of the Keep

    pub with_last : (m : Machine) (got : List (Message J)) (ls : List (List (Order J))) (k k' : K) (r : Result Report JobFault)
        → RanFromOver honest saved may_load faults work trusted m got ls k k' r → RanFromKeep honest saved may_load faults work trusted m got ls k r
    with_last m got ls k k' r p = (k', p)

    pub ended_over : (m : Machine) (got : List (Message J)) (ls : List (List (Order J))) (k k' : K) (r : Result Report JobFault)
        → IsOpened work m → RanFromOver honest saved may_load faults work trusted m got ls k k' r → EndedOver work trusted got ls r
    ended_over m got ls k k' r o p = ran_opened work trusted m got ls r o p.ran

    pub ended_own : (m : Machine) (got : List (Message J)) (ls : List (List (Order J))) (k : K) (r : Result Report JobFault)
        → IsOpened work m → RanFromKeep honest saved may_load faults work trusted m got ls k r → EndedOver work trusted got ls r
    ended_own m got ls k r o p = ran_opened work trusted m got ls r o p.1.ran

    pub on_own : (superstep : ℕ) (heard : Heard) (m : Machine) (got : List (Message J)) (ls : List (List (Order J))) (k : K) (r : Result Report JobFault)
        → m ≡ begun heard work.settings superstep → RanFromKeep honest saved may_load faults work trusted m got ls k r → RanOn work trusted superstep got ls r
    on_own superstep heard m got ls k r is p = ran_begun work trusted m got ls r superstep heard is p.1.ran

    -- ---- calm answers

    pub calm_driven : (got : List (Message J)) (ls : List (List (Order J))) (k k' : K) (r : Result Report JobFault)
        → WhereEnded r (EndedOverKeep honest saved may_load faults work trusted got ls k k' r) → LoadsNothingElse saved may_load → NeverFails faults → IfOk r IsCalmReport
    calm_driven got ls k k' (Ok report) x one never = calm_report work trusted x.ended.end report (x.calm one never) x.ended.answers
    calm_driven got ls k k' (Err fault) x one never = tt

    pub calm_told : (got : List (Message J)) (ls : List (List (Order J))) (k : K) (r : Result Report JobFault)
        → WhereRun r (EndedOverOwn honest saved may_load faults work trusted got ls k r) → LoadsNothingElse saved may_load → NeverFails faults → IfOk r IsCalmReport
    calm_told got ls k (Ok report) x one never = calm_report work trusted x.1.ended.end report (x.1.calm one never) x.1.ended.answers
    calm_told got ls k (Err fault) x one never = tt

    pub calm_told_on : (superstep : ℕ) (got : List (Message J)) (ls : List (List (Order J))) (k : K) (r : Result Report JobFault)
        → WhereRun r (RanOnOwn honest saved may_load faults work trusted superstep got ls k r) → LoadsNothingElse saved may_load → NeverFails faults → LoadsMadeAt work (may_load k) superstep → IfOk r IsCalmReport
    calm_told_on superstep got ls k (Ok report) x one never made = calm_report work trusted x.1.over.ran.end report (x.1.calm one never made) x.1.over.ran.answers
    calm_told_on superstep got ls k (Err fault) x one never made = tt
