-- A whole run, from step to step.
use Rattle.std.proofs.Common.{◌≡◌, ℕ, suc, ◌+◌, ◌<◌, ◌≤◌, ◌++◌, List, [], ◌∷◌, length, get_or, take, drop, Bool, true, false, Option, Some, None, refl, sym, ap, ◌∙◌, subst, arith, add-one, replicate, inl, inr}
use Rattle.std.specs.Prelude.{Result, Ok, Err, IfOk, option_map, nat_lt}
use Rattle.std.proofs.lemmas.List.{length-map, map-set, take_more_set}
use Rattle.std.proofs.Math.Seq.{take-append_seam, take-suc}
use Rattle.std.proofs.Math.ListN.{set, get_or-map}
use Rattle.checkpoint.specs.Keep.{LoadsNothingElse}
use Rattle.job_state.specs.declared.fault.JobFault.{JobFault}
use Rattle.job_state.specs.declared.fault.JobFault.TheVariants.{OutOfMemory}
use Rattle.job_state.specs.declared.fault.Place.TheVariants.{Report as Reporting}
use Rattle.superstep.specs.Job.{Work as AnyWork}
use Rattle.job_state.specs.Stamps.{TaskStamp}
use Rattle.superstep.specs.Tasks.{AreUnitsAt}
use Rattle.control.specs.declared.control.Out.{Out}
use Rattle.control.specs.declared.answer.Answer.{Answer}
use Rattle.control.specs.declared.answer.Answer.TheVariants.{Ended, Stale}
use Rattle.control.specs.declared.job_status.DeviceResult.TheVariants.{Good}
use Rattle.rollback.specs.declared.simulation.Step.{Step}
use Rattle.rollback.specs.declared.simulation.Step.TheVariants.{Join, Lose, Take, Tick, Work}
use Rattle.rollback.specs.declared.simulation.StepAnswer.{StepAnswer}
use Rattle.rollback.specs.declared.simulation.StepAnswer.TheVariants.{Handed, Idle, Said}
use Rattle.control.specs.declared.job_status.JobStatus.{JobStatus}
use Rattle.control.specs.declared.job_status.JobStatus.TheVariants.{Fault, Finished, Limit, Running}
use Rattle.book.specs.declared.report.Report.{Report}
use Rattle.rollback.specs.declared.simulation.Outcome.{Outcome}
use Rattle.rollback.specs.declared.simulation.Outcome.TheVariants.{Ended as Over, Open}
use Rattle.rollback.specs.declared.simulation.Trace.{Trace}
use Rattle.book.specs.Saving.{IsKeptStep, KeepsFor}
use Rattle.book.specs.Calm.{IsCalmAt, NeverFails}
use Rattle.book.specs.inside.Counts.{HasSameCounts, LoadsMade}
use Rattle.book.proofs.Counts.{counts_both, counts_kept, counts_same, loads_made}
use Rattle.control.specs.Machine.{Machine, hand, handed, has_answer, is_free, is_running, opened, task_of}
use Rattle.control.specs.Events.{Heard, Stamp, accepted, reply_of}
use Rattle.control.specs.Events.Stamp.{JoinedBy, LostBy, Ticked}
use Rattle.book.specs.Book.{IsQuietAt, IsReport, IsStep}
use Rattle.control.specs.Stamps.{task_out}
use Rattle.rollback.specs.Simulation.{IsCalm, IsEnded, IsOutcomeAt, IsSimStep, IsSimulated, IsSimulatedOver, IsTrace, Ran, RanOver, Sim, StepInput, brought, does, without_task, emptied, held_or_new, holds, while_running, new_task, said, sim_opened, sim_step, taken, takes, work_on, worked}
use Rattle.rollback.specs.inside.Simulating.{stamps, with_none_held}

-- of any relation of steps and Keeps
module _ {K : Type 0} (over : Machine → Machine → K → K → Type 0) (work : AnyWork) (honest : ℕ → Bool) where
  snoc_none : (s : Sim) (k : K) (mid : Sim) (kmid : K) (x : Step) (a : StepAnswer) (after : Sim) (k' : K) → s ≡ mid → k ≡ kmid → IsSimStep work honest x mid after a → over mid.machine after.machine kmid k' → RanOver over work honest (x ∷ []) s k (a ∷ []) after k'
  snoc_none s k mid kmid x a after k' e f step kept =
      let step' : IsSimStep work honest x s after a = subst (λ z. IsSimStep work honest x z after a) (sym e) step in
      let kept' : over s.machine after.machine kmid k' = subst (λ (z : Sim). over z.machine after.machine kmid k') (sym e) kept in
      (after, k', step', subst (λ z. over s.machine after.machine z k') (sym f) kept', (refl, refl))

  pub ran_snoc : (xs : List Step) (s : Sim) (k : K) (answers : List StepAnswer) (mid : Sim) (kmid : K) (x : Step) (a : StepAnswer) (after : Sim) (k' : K) → RanOver over work honest xs s k answers mid kmid → IsSimStep work honest x mid after a → over mid.machine after.machine kmid k' → RanOver over work honest (xs ++ (x ∷ [])) s k (answers ++ (a ∷ [])) after k'
  ran_snoc [] s k [] mid kmid x a after k' r step kept = snoc_none s k mid kmid x a after k' r.0 r.1 step kept
  ran_snoc [] s k (b ∷ bs) mid kmid x a after k' r step kept = absurd r
  ran_snoc (y ∷ ys) s k [] mid kmid x a after k' r step kept = absurd r
  ran_snoc (y ∷ ys) s k (b ∷ bs) mid kmid x a after k' r step kept = (r.0, r.1, r.2, r.3, ran_snoc ys r.0 r.1 bs mid kmid x a after k' r.4 step kept)

  -- one more step of the loop
  pub ran_more : (steps : List Step) (answers : List StepAnswer) (s : Sim) (k : K) (mid : Sim) (kmid : K) (after : Sim) (k' : K) (i : ℕ) (d : Step) (a : StepAnswer) → i < length steps → length answers ≡ length steps → RanOver over work honest (take i steps) s k (take i answers) mid kmid → IsSimStep work honest (get_or steps i d) mid after a → over mid.machine after.machine kmid k' → RanOver over work honest (take (i + 1) steps) s k (take (i + 1) (set answers i a)) after k'
  ran_more steps answers s k mid kmid after k' i d a lt len r step kept =
      let e : take (i + 1) steps ≡ take i steps ++ (get_or steps i d ∷ []) = rw add-one (take-suc steps i d lt) in
      let f : take (i + 1) (set answers i a) ≡ take i answers ++ (a ∷ []) = take_more_set answers i a (subst (λ n. i < n) (sym len) lt) in
      rw (e, f) (ran_snoc (take i steps) s k (take i answers) mid kmid (get_or steps i d) a after k' r step kept)

  -- the same run, whatever it leaves of the Keep
  pub ran_of : (xs : List Step) (s : Sim) (k : K) (answers : List StepAnswer) (after : Sim) (k' : K) → RanOver over work honest xs s k answers after k' → Ran work honest xs s answers after
  ran_of [] s k [] after k' r = r.0
  ran_of [] s k (b ∷ bs) after k' r = absurd r
  ran_of (y ∷ ys) s k [] after k' r = absurd r
  ran_of (y ∷ ys) s k (b ∷ bs) after k' r = (r.0, r.2, ran_of ys r.0 r.1 bs after k' r.4)

-- ---- the tasks that are held

pub stamps_set : (held : List (Option TaskStamp)) (w : ℕ) (task : Option TaskStamp) → stamps (set held w task) ≡ set (stamps held) w (option_map task_out task)
stamps_set held w task = map-set (option_map task_out) held w task

pub stamps_at : (held : List (Option TaskStamp)) (w : ℕ) → get_or (stamps held) w None ≡ option_map task_out (get_or held w None)
stamps_at held w = get_or-map (option_map task_out) held w None

below_is : (w n : ℕ) → w < n → nat_lt w n ≡ true
below_is w n h = grind arith

above_is : (w n : ℕ) → n ≤ w → nat_lt w n ≡ false
above_is w n h = grind arith

pub near_held : (held : List (Option TaskStamp)) (w : ℕ) → w < length held → nat_lt w (length (stamps held)) ≡ true
near_held held w lt = below_is w (length (stamps held)) (rw length-map lt)

pub far_held : (held : List (Option TaskStamp)) (w : ℕ) → length held ≤ w → nat_lt w (length (stamps held)) ≡ false
far_held held w le = above_is w (length (stamps held)) (rw length-map le)

-- ---- single steps

abbrev pub told_of : Heard → Bool → ℕ → StepInput
told_of heard ran units = record { heard = heard; ran = ran; units = units }

-- what is told where nothing is
abbrev nothing : StepInput
nothing = record { heard = record { quiet = false; merged = true; save = Good; load = Good; sliced = true }; ran = false; units = 0 }

-- a step in which the machine takes no event
pub plain_sim : (work : AnyWork) (honest : ℕ → Bool) (step : Step) (before after : Sim) (answer : StepAnswer) → after.machine.superstep ≡ before.machine.superstep → sim_step nothing before step ≡ (after, answer) → IsSimStep work honest step before after answer
plain_sim work honest step before after answer same next = record {
  told = nothing;
  quiet = λ h e. absurd (omega (arith, e, same));
  costs = λ ran task e h. absurd (cc);
  next = next;
}

takes_is : (heard : Heard) (s : Sim) (stamp : Stamp) (after : Machine) (reply : Result Answer JobFault) (answer : StepAnswer) → (accepted heard s.machine stamp).0 ≡ after → reply ≡ reply_of (accepted heard s.machine stamp) → answer ≡ said reply → takes heard s stamp ≡ (record s { machine = after }, answer)
takes_is heard s stamp after reply answer e f g = rw (g, f) (ap (λ m. (record s { machine = m }, said (reply_of (accepted heard s.machine stamp)))) e)

-- a step in which it takes one
pub told_sim : (work : AnyWork) (honest : ℕ → Bool) (step : Step) (before mid : Sim) (stamp : Stamp) (ran : Bool) (units : ℕ) (after : Machine) (reply : Result Answer JobFault) (answer : StepAnswer) → mid.machine.superstep ≡ before.machine.superstep → mid.machine.epoch ≡ before.machine.epoch → (ran ≡ true → (task : Out) → does before step ≡ Some task → honest task.epoch ≡ true → AreUnitsAt work task.superstep task.part units) → ((heard : Heard) → sim_step (told_of heard ran units) before step ≡ takes heard mid stamp) → IsStep work honest (λ heard. accepted heard mid.machine stamp) mid.machine after reply → answer ≡ said reply → IsSimStep work honest step before (record mid { machine = after }) answer
told_sim work honest step before mid stamp ran units after reply answer same epoch costs is x e = record {
  told = told_of x.heard ran units;
  quiet = λ h next. subst (λ n. IsQuietAt work (suc n) x.heard.quiet) same (x.quiet (subst (λ n. honest n ≡ true) (sym epoch) h) (next ∙ ap suc (sym same)));
  costs = costs;
  next = is x.heard ∙ takes_is x.heard mid stamp after reply answer x.machine x.told e;
}

while_running_is : (s : Sim) (w : ℕ) (next : Sim × StepAnswer) → is_running s.machine.ending ≡ true → nat_lt w (length s.held) ≡ true → while_running s w next ≡ next
while_running_is s w next run near = rw (run, near) refl

pub take_over : (work : AnyWork) (honest : ℕ → Bool) (w : ℕ) (s : Sim) → is_running s.machine.ending ≡ false → IsSimStep work honest (Take w) s s (Said Ended)
take_over work honest w s over = plain_sim work honest (Take w) s s (Said Ended) refl (rw over refl)

pub take_far : (work : AnyWork) (honest : ℕ → Bool) (w : ℕ) (s : Sim) → is_running s.machine.ending ≡ true → nat_lt w (length s.held) ≡ false → IsSimStep work honest (Take w) s s (Said Stale)
take_far work honest w s run far = plain_sim work honest (Take w) s s (Said Stale) refl (rw (run, far) refl)

pub take_holder : (work : AnyWork) (honest : ℕ → Bool) (w : ℕ) (s : Sim) → is_running s.machine.ending ≡ true → nat_lt w (length s.held) ≡ true → is_free (holds s w) ≡ false → IsSimStep work honest (Take w) s s Idle
take_holder work honest w s run near full = plain_sim work honest (Take w) s s Idle refl (rw (run, near, full) refl)

pub take_none : (work : AnyWork) (honest : ℕ → Bool) (w : ℕ) (s : Sim) → is_running s.machine.ending ≡ true → nat_lt w (length s.held) ≡ true → is_free (holds s w) ≡ true → hand s.machine w ≡ None → IsSimStep work honest (Take w) s s Idle
take_none work honest w s run near free none = plain_sim work honest (Take w) s s Idle refl (while_running_is s w _ run near ∙ rw free (ap (taken s w) none))

pub take_some : (work : AnyWork) (honest : ℕ → Bool) (w p : ℕ) (s : Sim) (after : Machine) (held : List (Option Out)) → is_running s.machine.ending ≡ true → nat_lt w (length s.held) ≡ true → is_free (holds s w) ≡ true → hand s.machine w ≡ Some p → after ≡ handed s.machine w p → held ≡ set s.held w (Some (task_of s.machine p)) → IsSimStep work honest (Take w) s (record { machine = after; held = held }) (Handed p)
take_some work honest w p s after held run near free some e f = plain_sim work honest (Take w) s (record { machine = after; held = held }) (Handed p) (ap (λ (m : Machine). m.superstep) e) (while_running_is s w _ run near ∙ rw free (ap (taken s w) some ∙ rw (e, f) refl))

pub work_over : (work : AnyWork) (honest : ℕ → Bool) (w : ℕ) (s : Sim) (held : List (Option Out)) → holds s w ≡ None → held ≡ set s.held w None → is_running s.machine.ending ≡ false → IsSimStep work honest (Work w) s (record s { held = held }) (Said Ended)
work_over work honest w s held none e over = plain_sim work honest (Work w) s (record s { held = held }) (Said Ended) refl (ap (work_on nothing (without_task s w) w) none ∙ rw (over, e) refl)

pub work_far : (work : AnyWork) (honest : ℕ → Bool) (w : ℕ) (s : Sim) (held : List (Option Out)) → holds s w ≡ None → held ≡ set s.held w None → is_running s.machine.ending ≡ true → nat_lt w (length held) ≡ false → IsSimStep work honest (Work w) s (record s { held = held }) (Said Stale)
work_far work honest w s held none e run far =
    let far' : nat_lt w (length (set s.held w None)) ≡ false = subst (λ h. nat_lt w (length h) ≡ false) e far in
    plain_sim work honest (Work w) s (record s { held = held }) (Said Stale) refl (ap (work_on nothing (without_task s w) w) none ∙ rw (run, far', e) refl)

pub work_none : (work : AnyWork) (honest : ℕ → Bool) (w : ℕ) (s : Sim) (held : List (Option Out)) → holds s w ≡ None → held ≡ set s.held w None → is_running s.machine.ending ≡ true → nat_lt w (length held) ≡ true → hand s.machine w ≡ None → IsSimStep work honest (Work w) s (record s { held = held }) Idle
work_none work honest w s held none e run near nobody =
    let near' : nat_lt w (length (set s.held w None)) ≡ true = subst (λ h. nat_lt w (length h) ≡ true) e near in
    plain_sim work honest (Work w) s (record s { held = held }) Idle refl (ap (work_on nothing (without_task s w) w) none ∙ while_running_is (without_task s w) w _ run near' ∙ ap (worked nothing (without_task s w) w) nobody ∙ rw e refl)

-- what one task costs, of the one that is done
costs_of : (work : AnyWork) (honest : ℕ → Bool) (ran : Bool) (units : ℕ) (task : Out) (one : Option Out) → one ≡ Some task → (ran ≡ true → honest task.epoch ≡ true → AreUnitsAt work task.superstep task.part units) → ran ≡ true → (other : Out) → one ≡ Some other → honest other.epoch ≡ true → AreUnitsAt work other.superstep other.part units
costs_of work honest ran units task one is cost r other e =
    let z : Some task ≡ Some other = sym is ∙ e in
    let same : task ≡ other = cc in
    subst (λ (o : Out). honest o.epoch ≡ true → AreUnitsAt work o.superstep o.part units) same (cost r)

-- the worker does the task that it held
pub work_held : (work : AnyWork) (honest : ℕ → Bool) (w : ℕ) (s : Sim) (after : Machine) (held : List (Option Out)) (task : Out) (stamp : Stamp) (ran : Bool) (units : ℕ) (reply : Result Answer JobFault) (answer : StepAnswer) → holds s w ≡ Some task → held ≡ set s.held w None → stamp ≡ brought ran units w task → (ran ≡ true → honest task.epoch ≡ true → AreUnitsAt work task.superstep task.part units) → IsStep work honest (λ heard. accepted heard s.machine stamp) s.machine after reply → answer ≡ said reply → IsSimStep work honest (Work w) s (record { machine = after; held = held }) answer
work_held work honest w s after held task stamp ran units reply answer some e st cost x a =
    let is = λ (heard : Heard). ap (work_on (told_of heard ran units) (without_task s w) w) some ∙ ap (λ (z : Stamp). takes heard (without_task s w) z) (sym st) in
    let costs = costs_of work honest ran units task (does s (Work w)) (ap (held_or_new s w) some) cost in
    subst (λ h. IsSimStep work honest (Work w) s (record { machine = after; held = h }) answer) (sym e) (told_sim work honest (Work w) s (without_task s w) stamp ran units after reply answer refl refl costs is x a)

-- the worker does a new one
pub work_new : (work : AnyWork) (honest : ℕ → Bool) (w p : ℕ) (s : Sim) (handed_out after : Machine) (held : List (Option Out)) (task : Out) (stamp : Stamp) (ran : Bool) (units : ℕ) (reply : Result Answer JobFault) (answer : StepAnswer) → holds s w ≡ None → held ≡ set s.held w None → is_running s.machine.ending ≡ true → nat_lt w (length held) ≡ true → hand s.machine w ≡ Some p → handed_out ≡ handed s.machine w p → task ≡ task_of s.machine p → stamp ≡ brought ran units w task → (ran ≡ true → honest task.epoch ≡ true → AreUnitsAt work task.superstep task.part units) → IsStep work honest (λ heard. accepted heard handed_out stamp) handed_out after reply → answer ≡ said reply → IsSimStep work honest (Work w) s (record { machine = after; held = held }) answer
work_new work honest w p s handed_out after held task stamp ran units reply answer none e run near some out' t st cost x a =
    let near' : nat_lt w (length (set s.held w None)) ≡ true = subst (λ h. nat_lt w (length h) ≡ true) e near in
    let mid = record (without_task s w) { machine = handed s.machine w p } in
    let y : IsStep work honest (λ heard. accepted heard (handed s.machine w p) stamp) (handed s.machine w p) after reply = subst (λ m. IsStep work honest (λ heard. accepted heard m stamp) m after reply) out' x in
    let st' : stamp ≡ brought ran units w (task_of s.machine p) = st ∙ ap (brought ran units w) t in
    let is = λ (heard : Heard). ap (work_on (told_of heard ran units) (without_task s w) w) none ∙ while_running_is (without_task s w) w _ run near' ∙ ap (worked (told_of heard ran units) (without_task s w) w) some ∙ ap (λ (z : Stamp). takes heard mid z) (sym st') in
    let does_it : does s (Work w) ≡ Some task = ap (held_or_new s w) none ∙ ap (new_task s.machine) some ∙ ap Some (sym t) in
    let costs = costs_of work honest ran units task (does s (Work w)) does_it cost in
    subst (λ h. IsSimStep work honest (Work w) s (record { machine = after; held = h }) answer) (sym e) (told_sim work honest (Work w) s mid stamp ran units after reply answer refl refl costs is y a)

pub join_told : (work : AnyWork) (honest : ℕ → Bool) (w : ℕ) (s : Sim) (after : Machine) (held : List (Option Out)) (reply : Result Answer JobFault) (answer : StepAnswer) → held ≡ emptied s.machine s.held w → IsStep work honest (λ heard. accepted heard s.machine (JoinedBy w)) s.machine after reply → answer ≡ said reply → IsSimStep work honest (Join w) s (record { machine = after; held = held }) answer
join_told work honest w s after held reply answer e x a = subst (λ h. IsSimStep work honest (Join w) s (record { machine = after; held = h }) answer) (sym e) (told_sim work honest (Join w) s (record s { held = emptied s.machine s.held w }) (JoinedBy w) false 0 after reply answer refl refl (λ r task is h. absurd (cc)) (λ heard. refl) x a)

pub lose_told : (work : AnyWork) (honest : ℕ → Bool) (w : ℕ) (s : Sim) (after : Machine) (reply : Result Answer JobFault) (answer : StepAnswer) → IsStep work honest (λ heard. accepted heard s.machine (LostBy w)) s.machine after reply → answer ≡ said reply → IsSimStep work honest (Lose w) s (record s { machine = after }) answer
lose_told work honest w s after reply answer x a = told_sim work honest (Lose w) s s (LostBy w) false 0 after reply answer refl refl (λ r task is h. absurd (cc)) (λ heard. refl) x a

pub tick_told : (work : AnyWork) (honest : ℕ → Bool) (s : Sim) (after : Machine) (reply : Result Answer JobFault) (answer : StepAnswer) → IsStep work honest (λ heard. accepted heard s.machine Ticked) s.machine after reply → answer ≡ said reply → IsSimStep work honest Tick s (record s { machine = after }) answer
tick_told work honest s after reply answer x a = told_sim work honest Tick s s Ticked false 0 after reply answer refl refl (λ r task is h. absurd (cc)) (λ heard. refl) x a

-- ---- what is counted

pub counts_handed : (m m' : Machine) (w p : ℕ) → m' ≡ handed m w p → HasSameCounts m m'
counts_handed m m' w p e = record { missed = ap (λ (x : Machine). x.missed) e; restarts = ap (λ (x : Machine). x.restarts) e }

pub saved_handed : (m m' : Machine) (w p : ℕ) → m' ≡ handed m w p → m'.saved ≡ m.saved
saved_handed m m' w p e = ap (λ (x : Machine). x.saved) e

-- ---- whole runs

-- a list that was written over from its start
pub overwritten : {A : Type 0} (n : ℕ) (ys xs : List A) → length ys ≡ n → take n (ys ++ drop (length ys) xs) ≡ ys
overwritten n ys xs e = rw (← e) (take-append_seam ys (drop (length ys) xs))

-- no worker holds a task
pub held_none : (m : Machine) (held : List (Option Out)) (workers : ℕ) → held ≡ replicate workers None → record { machine = m; held = held } ≡ with_none_held workers m
held_none m held workers e = rw e refl

pub opened_is : (work : AnyWork) (m : Machine) (held : List (Option Out)) (quiet : Bool) → m ≡ opened work.settings quiet → held ≡ replicate work.settings.workers None → record { machine = m; held = held } ≡ sim_opened work quiet
opened_is work m held quiet e f = rw (e, f) refl

-- ---- what steps leave of the Keep

module _ {K : Type 0} (honest : K → Bool) (saved : K → Option ℕ) (may_load : K → List ℕ → Type 0) (faults : K → ℕ) (work : AnyWork) (trusted : ℕ → Bool) where
  abbrev Kept : Machine → Machine → K → K → Type 0
  Kept = IsKeptStep honest saved may_load faults work trusted

  -- a task was handed out before
  pub kept_handed : (m m1 m' : Machine) (w p : ℕ) (k k' : K) → m1 ≡ handed m w p → Kept m1 m' k k' → Kept m m' k k'
  kept_handed m m1 m' w p k k' e x =
      let y : Kept (handed m w p) m' k k' = subst (λ z. Kept z m' k k') e x in
      record { keeps = y.keeps; cause = record { missed = y.cause.missed; restarts = y.cause.restarts }; left = y.left; loads = y.loads }

  calm_from : (xs : List Step) (s : Sim) (k : K) (answers : List StepAnswer) (after : Sim) (k' : K) → LoadsNothingElse saved may_load → NeverFails faults → LoadsMade work (may_load k) s.machine → RanOver Kept work trusted xs s k answers after k' → HasSameCounts s.machine after.machine
  calm_from [] s k [] after k' one never made r = counts_same s.machine after.machine (ap (λ (z : Sim). z.machine) (sym r.0))
  calm_from [] s k (b ∷ bs) after k' one never made r = absurd r
  calm_from (y ∷ ys) s k [] after k' one never made r = absurd r
  calm_from (y ∷ ys) s k (b ∷ bs) after k' one never made r =
      counts_both s.machine r.0.machine after.machine
      (counts_kept work (may_load k) s.machine r.0.machine (faults k) (faults r.1) (never k) (never r.1) made r.3.cause)
      (calm_from ys r.0 r.1 bs after k' one never (loads_made honest saved may_load faults work trusted s.machine r.0.machine k r.1 one made r.3) r.4)

  calm_run : (quiet : Bool) (xs : List Step) (k : K) (answers : List StepAnswer) (after : Sim) (k' : K) → LoadsNothingElse saved may_load → NeverFails faults → RanOver Kept work trusted xs (sim_opened work quiet) k answers after k' → IsCalmAt after.machine
  calm_run quiet xs k answers after k' one never r =
      let c = calm_from xs (sim_opened work quiet) k answers after k' one never (λ s e. absurd (cc)) r in
      (c.missed, c.restarts)

  pub run_over : (steps : List Step) (quiet : Bool) (s : Sim) (k : K) (answers : List StepAnswer) (after : Sim) (k' : K) (result : Result Trace JobFault) → IsQuietAt work 0 quiet → s ≡ sim_opened work quiet → RanOver Kept work trusted steps s k answers after k' → KeepsFor work trusted (honest k') (saved k') (may_load k') after.machine → IsTrace work trusted after.machine answers result → IsSimulatedOver honest saved may_load faults work trusted steps k k' result
  run_over steps quiet s k answers after k' result first e ran keeps trace =
      let ran' : RanOver Kept work trusted steps (sim_opened work quiet) k answers after k' = subst (λ x. RanOver Kept work trusted steps x k answers after k') e ran in
      inr (inr (record {
        quiet = quiet;
        first = first;
        after = after;
        answers = answers;
        ran = ran';
        keeps = keeps;
        calm = λ one never. calm_run quiet steps k answers after k' one never ran';
        trace = trace;
      }))

  -- without what it leaves of the Keep
  pub simulated_of : (steps : List Step) (k k' : K) (result : Result Trace JobFault) → IsSimulatedOver honest saved may_load faults work trusted steps k k' result → IsSimulated work trusted steps result
  simulated_of steps k k' result x = elim x [
    | inl none ↦ inl none.0
    | inr y ↦ elim y [
      | inl none ↦ inr (inl none.0)
      | inr run ↦ inr (inr (record {
        quiet = run.quiet;
        first = run.first;
        after = run.after;
        answers = run.answers;
        ran = ran_of Kept work trusted steps (sim_opened work run.quiet) k run.answers run.after k' run.ran;
        trace = run.trace;
      }))
    ]
  ]

-- ---- calm ends

calm_ended : (work : AnyWork) (honest : ℕ → Bool) (m : Machine) (outcome : Outcome) → m.missed ≡ 0 → m.restarts ≡ 0 → IsEnded work honest m (Ok outcome) → IsCalm outcome
calm_ended work honest m (Open s) e f h = tt
calm_ended work honest m (Over report) e f h = (h.missed ∙ e, h.restarts ∙ f)

calm_at : (work : AnyWork) (honest : ℕ → Bool) (m : Machine) (end : JobStatus) (outcome : Outcome) → m.missed ≡ 0 → m.restarts ≡ 0 → IsOutcomeAt work honest m end (Ok outcome) → IsCalm outcome
calm_at work honest m Running (Open s) e f h = tt
calm_at work honest m Running (Over report) e f h = absurd (cc)
calm_at work honest m Finished outcome e f h = calm_ended work honest m outcome e f h
calm_at work honest m Limit outcome e f h = calm_ended work honest m outcome e f h
calm_at work honest m (Fault fault) outcome e f h = absurd (cc)

calm_is : (work : AnyWork) (honest : ℕ → Bool) (m : Machine) (outcome : Outcome) → m.missed ≡ 0 → m.restarts ≡ 0 → IsOutcomeAt work honest m m.ending (Ok outcome) → IsCalm outcome
calm_is work honest m outcome e f h = calm_at work honest m m.ending outcome e f h

pub calm_over : {K : Type 0} (honest : K → Bool) (saved : K → Option ℕ) (may_load : K → List ℕ → Type 0) (faults : K → ℕ) (work : AnyWork) (trusted : ℕ → Bool) (steps : List Step) (k k' : K) (result : Result Trace JobFault) → LoadsNothingElse saved may_load → NeverFails faults → IsSimulatedOver honest saved may_load faults work trusted steps k k' result → IfOk result (λ (trace : Trace). IsCalm trace.outcome)
calm_over honest saved may_load faults work trusted steps k k' (Err fault) one never x = tt
calm_over honest saved may_load faults work trusted steps k k' (Ok trace) one never x = elim x [
  | inl none ↦ (let e = none.0 in absurd (cc))
  | inr y ↦ elim y [
    | inl none ↦ (let e = none.0 in absurd (cc))
    | inr run ↦ (let calm = run.calm one never in calm_is work trusted run.after.machine trace.outcome calm.0 calm.1 run.trace.1)
  ]
]

-- ---- where the steps lead

pub outcome_open : (work : AnyWork) (honest : ℕ → Bool) (m : Machine) (s : ℕ) → Running ≡ m.ending → s ≡ m.superstep → IsOutcomeAt work honest m m.ending (Ok (Open s))
outcome_open work honest m s e is = subst (λ x. IsOutcomeAt work honest m x (Ok (Open s))) e (ap (λ n. Ok (Open n)) is)

pub outcome_fault : (work : AnyWork) (honest : ℕ → Bool) (m : Machine) (fault : JobFault) → Fault fault ≡ m.ending → IsOutcomeAt work honest m m.ending (Err fault)
outcome_fault work honest m fault e = subst (λ x. IsOutcomeAt work honest m x (Err fault)) e refl

outcome_told : (work : AnyWork) (honest : ℕ → Bool) (m : Machine) (end : JobStatus) (result : Result Outcome JobFault) → has_answer end ≡ true → IsEnded work honest m result → IsOutcomeAt work honest m end result
outcome_told work honest m Running result h is = absurd (cc)
outcome_told work honest m Finished result h is = is
outcome_told work honest m Limit result h is = is
outcome_told work honest m (Fault fault) result h is = absurd (cc)

pub outcome_report : (work : AnyWork) (honest : ℕ → Bool) (m : Machine) (report : Report) → has_answer m.ending ≡ true → IsReport work honest m report → IsOutcomeAt work honest m m.ending (Ok (Over report))
outcome_report work honest m report h is = outcome_told work honest m m.ending (Ok (Over report)) h is

pub outcome_unreported : (work : AnyWork) (honest : ℕ → Bool) (m : Machine) (fault : JobFault) → has_answer m.ending ≡ true → fault ≡ OutOfMemory Reporting → IsOutcomeAt work honest m m.ending (Err fault)
outcome_unreported work honest m fault h is = outcome_told work honest m m.ending (Err fault) h is
