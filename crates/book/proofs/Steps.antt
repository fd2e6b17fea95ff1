-- Steps of the control model.
use Rattle.std.proofs.Common.{◌≡◌, ℕ, ◌<◌, ◌≤◌, List, length, Bool, true, false, ◌&&◌, cond, Option, Some, None, refl, sym, ap, ◌∙◌, subst, arith, inl}
use Rattle.std.specs.Prelude.{not, nat_lt, Result, Ok, Err}
use Rattle.job_state.specs.declared.fault.JobFault.{JobFault}
use Rattle.job_state.specs.declared.fault.JobFault.TheVariants.{NoWorkers, OutOfMemory}
use Rattle.job_state.specs.declared.fault.Place.TheVariants.{Slice}
use Rattle.superstep.specs.Job.{Work}
use Rattle.control.specs.declared.control.Out.{Out}
use Rattle.control.specs.declared.job_status.JobStatus.{JobStatus}
use Rattle.control.specs.declared.job_status.JobStatus.TheVariants.{Fault, Finished, Limit, Running}
use Rattle.control.specs.declared.job_status.DeviceResult.{DeviceResult}
use Rattle.control.specs.declared.job_status.DeviceResult.TheVariants.{Failed, Good, NoMemory}
use Rattle.control.specs.declared.answer.Answer.{Answer}
use Rattle.control.specs.declared.answer.Answer.TheVariants.{Ended, Stale}
use Rattle.control.specs.Machine.{Machine, all_set, begun_anew, charged, count_set, counts, ended_by, finished, freed, is_alive, is_running, joined, may_join, saved_or_first}
use Rattle.control.specs.Events.{Heard, Stamp, accepted, after_end, after_loss, done_step, on_event, is_known, loading, loss, reply_by, reply_of, rolled, rolling, shut, slicing, step}
use Rattle.control.specs.Events.Stamp.{DoneBy}
use Rattle.book.specs.Saving.{IsLoadResult, KeepsFor}
use Rattle.book.specs.Book.{IsStep}
use Rattle.book.specs.inside.EventStep.{IsEventStep, IsSteady}
use Rattle.control.proofs.Sound.{shut_is}
use Rattle.book.proofs.Keeps.{AreSame, keeps_same, loads, loads_same, slicing_same}

pub below_is : (w n : ℕ) → w < n → nat_lt w n ≡ true
below_is w n h = grind arith

pub above_is : (w n : ℕ) → n ≤ w → nat_lt w n ≡ false
above_is w n h = grind arith

-- ---- a machine that is told nothing of note

abbrev pub plain : Heard
plain = record { quiet = false; merged = true; save = Good; load = Good; sliced = true }

pub plain_step : (work : Work) (honest : ℕ → Bool) (m after x : Machine) (next : Heard → Machine × Answer) (answer : Answer) (reply : Result Answer JobFault) → next plain ≡ (x, answer) → x ≡ after → after.superstep ≡ m.superstep → reply ≡ reply_by after.ending answer → IsStep work honest next m after reply
plain_step work honest m after x next answer reply e same stays r = record {
  heard = plain;
  quiet = λ h later. absurd (omega (arith, stays, later));
  machine = ap (λ p. p.0) e ∙ same;
  told = r ∙ ap (λ y. reply_by y.ending answer) (sym same) ∙ sym (ap reply_of e);
}

pub reply_running : (e : JobStatus) (a : Answer) → is_running e ≡ true → Ok a ≡ reply_by e a
reply_running Running a h = refl
reply_running Finished a h = absurd (cc)
reply_running Limit a h = absurd (cc)
reply_running (Fault fault) a h = absurd (cc)

pub accepted_on : (heard : Heard) (m : Machine) (st : Stamp) → is_running m.ending ≡ true → accepted heard m st ≡ on_event heard m st
accepted_on heard m st e = rw e refl

pub accepted_over : (heard : Heard) (m : Machine) (st : Stamp) → is_running m.ending ≡ false → accepted heard m st ≡ (after_end m st, Ended)
accepted_over heard m st e = rw e refl

pub on_event_known : (heard : Heard) (m : Machine) (st : Stamp) (b : Bool) → is_known (length m.alive) st ≡ b → on_event heard m st ≡ cond b (step heard m st) (m, Stale)
on_event_known heard m st b e = rw e refl

-- the same step by another name
pub same_step : (work : Work) (honest : ℕ → Bool) (m after : Machine) (next next' : Heard → Machine × Answer) (reply : Result Answer JobFault) → ((heard : Heard) → next' heard ≡ next heard) → IsStep work honest next m after reply → IsStep work honest next' m after reply
same_step work honest m after next next' reply e s = record { heard = s.heard; quiet = s.quiet; machine = ap (λ p. p.0) (e s.heard) ∙ s.machine; told = s.told ∙ sym (ap reply_of (e s.heard)) }

-- a step of which the Keep has no part
pub on_event_steady : (work : Work) (trusted : ℕ → Bool) (next : Heard → Machine × Answer) (before after : Machine) (h : Bool) (k : Option ℕ) (ml : List ℕ → Type 0) (f : ℕ) (reply : Result Answer JobFault) → IsStep work trusted next before after reply → IsSteady before after → KeepsFor work trusted h k ml before → IsEventStep work trusted next before after h h k k ml ml f f reply
on_event_steady work trusted next before after h k ml f reply s same keeps = record {
  step = s;
  keeps = keeps_same work trusted h k ml before after same.saved keeps;
  cause = record { missed = inl same.missed; restarts = inl same.restarts };
  left = inl refl;
  loads = inl (λ bytes may. may, inl same.saved);
}

-- a result is charged, and then the event is taken
pub charged_on_event : (work : Work) (honest : ℕ → Bool) (m mc after : Machine) (w units : ℕ) (task : Out) (h h' : Bool) (k k' : Option ℕ) (ml ml' : List ℕ → Type 0) (f f' : ℕ) (reply : Result Answer JobFault) → nat_lt w (length m.alive) ≡ true → mc ≡ charged m w units → IsEventStep work honest (λ heard. done_step heard mc w task) mc after h h' k k' ml ml' f f' reply → IsEventStep work honest (λ heard. on_event heard m (DoneBy w task units)) m after h h' k k' ml ml' f f' reply
charged_on_event work honest m mc after w units task h h' k k' ml ml' f f' reply near is x =
    let y : IsEventStep work honest (λ heard. done_step heard (charged m w units) w task) (charged m w units) after h h' k k' ml ml' f f' reply =
    subst (λ z. IsEventStep work honest (λ heard. done_step heard z w task) z after h h' k k' ml ml' f f' reply) is x in
    let e = λ (heard : Heard). on_event_known heard m (DoneBy w task units) true near in
    record {
      step = record { heard = y.step.heard; quiet = y.step.quiet; machine = ap (λ p. p.0) (e y.step.heard) ∙ y.step.machine; told = y.step.told ∙ sym (ap reply_of (e y.step.heard)) };
      keeps = y.keeps;
      cause = record { missed = y.cause.missed; restarts = y.cause.restarts };
      left = y.left;
      loads = y.loads;
    }

-- a result that is taken, and with which all parts are done
pub counted_on_event : (work : Work) (honest : ℕ → Bool) (m mf after : Machine) (w : ℕ) (task : Out) (h h' : Bool) (k k' : Option ℕ) (ml ml' : List ℕ → Type 0) (f f' : ℕ) (reply : Result Answer JobFault) → counts m w task ≡ true → mf ≡ finished (freed m w) task.part → all_set mf.done ≡ true → IsEventStep work honest (λ heard. shut heard mf) mf after h h' k k' ml ml' f f' reply → IsEventStep work honest (λ heard. done_step heard m w task) m after h h' k k' ml ml' f f' reply
counted_on_event work honest m mf after w task h h' k k' ml ml' f f' reply yes' is all x =
    let mt = finished (freed m w) task.part in
    let y : IsEventStep work honest (λ heard. shut heard mt) mt after h h' k k' ml ml' f f' reply =
    subst (λ z. IsEventStep work honest (λ heard. shut heard z) z after h h' k k' ml ml' f f' reply) is x in
    let e = λ (heard : Heard). shut_is heard m w task yes' (subst (λ (z : Machine). all_set z.done ≡ true) is all) in
    record {
      step = record { heard = y.step.heard; quiet = y.step.quiet; machine = ap (λ p. p.0) (e y.step.heard) ∙ y.step.machine; told = y.step.told ∙ sym (ap reply_of (e y.step.heard)) };
      keeps = y.keeps;
      cause = record { missed = y.cause.missed; restarts = y.cause.restarts };
      left = y.left;
      loads = y.loads;
    }

-- ---- a loss

pub loss_over : (heard : Heard) (m : Machine) → is_running m.ending ≡ false → loss heard m ≡ (m, Ended)
loss_over heard m e = rw (e, e) refl

pub loss_on : (heard : Heard) (m : Machine) → is_running m.ending ≡ true → loss heard m ≡ rolled (rolling heard m)
loss_on heard m e = rw e refl

anew_if : (m : Machine) (c : Bool) → is_running (cond c (begun_anew (joined m)) (ended_by NoWorkers (joined m))).ending ≡ true → cond c (begun_anew (joined m)) (ended_by NoWorkers (joined m)) ≡ begun_anew (joined m)
anew_if m true left = refl
anew_if m false left = absurd (cc)

pub anew_is : (m : Machine) → is_running (after_loss m).ending ≡ true → after_loss m ≡ begun_anew (joined m)
anew_is m left = anew_if m (nat_lt 0 (count_set (joined m).alive)) left

ended_if : (m : Machine) (c : Bool) → is_running m.ending ≡ true → is_running (cond c (begun_anew (joined m)) (ended_by NoWorkers (joined m))).ending ≡ false → cond c (begun_anew (joined m)) (ended_by NoWorkers (joined m)) ≡ ended_by NoWorkers (joined m)
ended_if m true run over = let c : true ≡ false = sym run ∙ over in absurd (cc)
ended_if m false run over = refl

pub ended_is : (m : Machine) → is_running m.ending ≡ true → is_running (after_loss m).ending ≡ false → after_loss m ≡ ended_by NoWorkers (joined m)
ended_is m run over = ended_if m (nat_lt 0 (count_set (joined m).alive)) run over

abbrev pub told_load : DeviceResult → Bool → Heard
told_load told sliced = record { quiet = false; merged = true; save = Good; load = told; sliced = sliced }

-- a load leads to no later superstep
loading_before : (asked : Option ℕ) (told : DeviceResult) (m : Machine) (s : ℕ) → m.superstep ≤ s → (loading asked told m).superstep ≤ s
loading_before None told m s le = le
loading_before (Some n) Good m s le = le
loading_before (Some n) Failed m s le = omega arith
loading_before (Some n) NoMemory m s le = le

slicing_before_if : (m : Machine) (c : Bool) (s : ℕ) → m.superstep ≤ s → (cond c (ended_by (OutOfMemory Slice) m) m).superstep ≤ s
slicing_before_if m true s le = le
slicing_before_if m false s le = le

pub rolling_before : (heard : Heard) (m : Machine) (s : ℕ) → m.superstep ≤ s → (rolling heard m).superstep ≤ s
rolling_before heard m s le =
    let x = loading m.saved heard.load m in
    slicing_before_if x (is_running x.ending && not heard.sliced) s (loading_before m.saved heard.load m s le)

-- the job goes on after a loss: m0 has lost its workers, m1 has begun anew, m2 has a state again
pub loss_step : (work : Work) (honest : ℕ → Bool) (m m0 m1 m2 : Machine) (next : Heard → Machine × Answer) (told : DeviceResult) (sliced : Bool) (reply : Result Answer JobFault) → next (told_load told sliced) ≡ loss (told_load told sliced) (after_loss m0) → m1 ≡ after_loss m0 → is_running m1.ending ≡ true → m2 ≡ slicing sliced (loading m1.saved told m1) → m1.superstep ≤ m.superstep → reply ≡ reply_of (rolled m2) → IsStep work honest next m m2 reply
loss_step work honest m m0 m1 m2 next told sliced reply e is on loaded before r =
    let heard = told_load told sliced in
    let all : next heard ≡ rolled m2 = e ∙ ap (λ x. loss heard x) (sym is) ∙ loss_on heard m1 on ∙ ap (λ x. rolled x) (sym loaded) in
    let le : m2.superstep ≤ m.superstep = subst (λ (x : Machine). x.superstep ≤ m.superstep) (sym loaded) (rolling_before heard m1 m.superstep before) in
    record { heard = heard; quiet = λ h later. absurd (omega (arith, le, later)); machine = ap (λ p. p.0) all; told = r ∙ sym (ap reply_of all) }

-- nobody is left
pub loss_end : (work : Work) (honest : ℕ → Bool) (m m0 m1 : Machine) (next : Heard → Machine × Answer) (reply : Result Answer JobFault) → next plain ≡ loss plain (after_loss m0) → m1 ≡ after_loss m0 → is_running m0.ending ≡ true → is_running m1.ending ≡ false → m0.superstep ≡ m.superstep → reply ≡ Err NoWorkers → IsStep work honest next m m1 reply
loss_end work honest m m0 m1 next reply e is run over same r =
    let all : next plain ≡ (m1, Ended) = e ∙ ap (λ x. loss plain x) (sym is) ∙ loss_over plain m1 over in
    let ends : m1 ≡ ended_by NoWorkers (joined m0) = is ∙ ended_is m0 run (subst (λ x. is_running x.ending ≡ false) is over) in
    plain_step work honest m m1 m1 next Ended reply all refl (ap (λ (x : Machine). x.superstep) ends ∙ same) (r ∙ sym (ap (λ x. reply_by x.ending Ended) ends))

-- a worker that may join is not alive
dead_if : (a b : Bool) → (not a && b) ≡ true → a ≡ false
dead_if true b h = absurd (cc)
dead_if false b h = refl

pub joins_dead : (m : Machine) (w : ℕ) → may_join m w ≡ true → is_alive m w ≡ false
joins_dead m w h = dead_if (is_alive m w) _ h

-- a loss after which the job goes on, and what the Keep has then
pub loss_on_event : (work : Work) (trusted : ℕ → Bool) (m m0 m1 m2 : Machine) (next : Heard → Machine × Answer) (told : DeviceResult) (sliced : Bool) (h h' : Bool) (k k' : Option ℕ) (ml ml' : List ℕ → Type 0) (f f' : ℕ) (reply : Result Answer JobFault) → next (told_load told sliced) ≡ loss (told_load told sliced) (after_loss m0) → m1 ≡ after_loss m0 → is_running m1.ending ≡ true → m2 ≡ slicing sliced (loading m1.saved told m1) → m0.saved ≡ m.saved → m0.missed ≡ m.missed → m0.restarts ≡ m.restarts → saved_or_first m.saved ≤ m.superstep → IsLoadResult work h h' k k' ml ml' f f' m1.saved told → KeepsFor work trusted h k ml m → reply ≡ reply_of (rolled m2) → IsEventStep work trusted next m m2 h h' k k' ml ml' f f' reply
loss_on_event work trusted m m0 m1 m2 next told sliced h h' k k' ml ml' f f' reply e is on loaded saved missed restarts past load old r =
    let anew : m1 ≡ begun_anew (joined m0) = is ∙ anew_is m0 (subst (λ (x : Machine). is_running x.ending ≡ true) is on) in
    let before : m1.superstep ≤ m.superstep = subst (λ n. n ≤ m.superstep) (sym (ap (λ (x : Machine). x.superstep) anew ∙ ap saved_or_first saved)) past in
    let x = loads work trusted m m1 h h' k k' ml ml' f f' told (ap (λ (y : Machine). y.saved) anew ∙ saved) (ap (λ (y : Machine). y.missed) anew ∙ missed) (ap (λ (y : Machine). y.restarts) anew ∙ restarts) load old in
    let y = loads_same work trusted m (loading m1.saved told m1) m2 h h' k k' ml ml' f f' x (subst (λ z. AreSame (loading m1.saved told m1) z) (sym loaded) (slicing_same (loading m1.saved told m1) sliced)) in
    record {
      step = loss_step work trusted m m0 m1 m2 next told sliced reply e is on loaded before r;
      keeps = y.keeps;
      cause = record { missed = inl y.missed; restarts = y.restarts };
      left = inl y.left;
      loads = inl y.loads;
    }
