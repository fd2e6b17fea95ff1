-- What a book keeps, from event to event.
use Rattle.std.proofs.Common.{◌≡◌, ◌≢◌, ℕ, zero, suc, ◌+◌, ◌<◌, ◌≤◌, List, [], ◌∷◌, length, get_or, map, replicate, Bool, true, false, ◌&&◌, cond, Some, None, Option, refl, sym, ap, ◌∙◌, subst, arith, below_more, add-one, inl, inr, get_or-set_same, get_or-set_other}
use Rattle.std.specs.Prelude.{nat_lt, not, ◌||◌}
use Rattle.std.proofs.Math.ListN.{length-set, set}
use Rattle.std.proofs.lemmas.List.{length-replicate}
use Rattle.job_state.specs.declared.fault.JobFault.{JobFault}
use Rattle.job_state.specs.declared.fault.JobFault.TheVariants.{NoWorkers, OutOfMemory}
use Rattle.job_state.specs.declared.fault.Place.TheVariants.{Load, Save, Slice}
use Rattle.job_state.specs.declared.settings.Settings.{Settings}
use Rattle.superstep.specs.Job.{Work}
use Rattle.superstep.specs.PlainRun.{state_at}
use Rattle.superstep.specs.Snapshot.{Row, is_called, is_quiet}
use Rattle.job_state.specs.declared.state.VertexState.{VertexState}
use Rattle.job_state.specs.Stamps.{DoneStamp}
use Rattle.std.specs.List.{list_any}
use Rattle.job_state.specs.State.{Standing, is_due, is_settled}
use Rattle.superstep.specs.State.{HasIdsOf, bare}
use Rattle.superstep.specs.Ending.{WasBusy}
use Rattle.superstep.proofs.Trusting.{Lasts}
use Rattle.control.specs.declared.control.Out.{Out}
use Rattle.control.specs.declared.job_status.JobStatus.{JobStatus}
use Rattle.control.specs.declared.job_status.JobStatus.TheVariants.{Fault, Finished, Limit, Running}
use Rattle.control.specs.declared.job_status.DeviceResult.{DeviceResult}
use Rattle.control.specs.declared.job_status.DeviceResult.TheVariants.{Failed, Good, NoMemory}
use Rattle.book.specs.declared.job_data.JobData.{JobData}
use Rattle.book.specs.declared.job_data.JobData.TheVariants.{Nothing, Parts, Whole}
use Rattle.control.specs.Machine.{Machine, all_set, begun_anew, closed, count_set, counts, either, ended_by, ending_at, finished, freed, hand, handed, has_answer, is_running, is_saved_now, joined, none_set, one_more, opened, restarted, resumed, saved_or_first, task_of, waits, welcomed}
use Rattle.control.specs.Events.{after_save, loading, saving, slicing}
use Rattle.book.specs.inside.Parts.{IsHome, Placement, Spot, all_home, is_returned, moved, returned}
use Rattle.book.specs.inside.Parts.Spot.{Gone, Home, Returned}
use Rattle.book.specs.Saving.{IsFullStateAt}
use Rattle.book.specs.Book.{IsQuietAt, has_finished}
use Rattle.control.specs.Stamps.{done_out}
use Rattle.book.specs.inside.Book.{AreIdsOf, AreParts, IsBacked, IsBook, HoldsData, IsReached, StandsAt, WasBusyTo, is_fault}
use Rattle.book.specs.inside.JobData.{HasHome, Runs, FitsPart}
use Rattle.book.specs.inside.Recovery.{IsFirst, IsHeldOf, StandsBack}
use Rattle.control.specs.inside.Sound.{IsOpen, IsSound}
use Rattle.control.proofs.ByPlace.{length-by_place}
use Rattle.control.proofs.Sound.{HasNone, apart, counted_part, counts_is, hand_free, hand_is, same_or_not, sound_anew, sound_closed, sound_ending, sound_freed, sound_handed, sound_opened, sound_rest, sound_restarted, sound_resumed, sound_taken, with_rest}

-- ---- ends

running_not_fault : (e : JobStatus) → is_running e ≡ true → is_fault e ≡ true → ⊥
running_not_fault Running h f = cc
running_not_fault Finished h f = cc
running_not_fault Limit h f = cc
running_not_fault (Fault fault) h f = cc

pub running_not_answer : (e : JobStatus) → is_running e ≡ true → has_answer e ≡ true → ⊥
running_not_answer Running h f = cc
running_not_answer Finished h f = cc
running_not_answer Limit h f = cc
running_not_answer (Fault fault) h f = cc

pub answer_not_running : (e : JobStatus) → has_answer e ≡ true → is_running e ≡ false
answer_not_running Running h = absurd (cc)
answer_not_running Finished h = refl
answer_not_running Limit h = refl
answer_not_running (Fault fault) h = absurd (cc)

pub fault_not_running : (e : JobStatus) → is_fault e ≡ true → is_running e ≡ false
fault_not_running Running h = absurd (cc)
fault_not_running Finished h = absurd (cc)
fault_not_running Limit h = absurd (cc)
fault_not_running (Fault fault) h = refl

running_is : (e : JobStatus) → is_running e ≡ true → e ≡ Running
running_is Running h = refl
running_is Finished h = absurd (cc)
running_is Limit h = absurd (cc)
running_is (Fault fault) h = absurd (cc)

fault_stands : (work : Work) (e : JobStatus) (s : ℕ) → is_fault e ≡ true → StandsAt work e s
fault_stands work Running s h = absurd (cc)
fault_stands work Finished s h = absurd (cc)
fault_stands work Limit s h = absurd (cc)
fault_stands work (Fault fault) s h = tt

running_stands : (work : Work) (e : JobStatus) (s : ℕ) → is_running e ≡ true → StandsAt work e s → IsQuietAt work s false × (s < work.settings.limit)
running_stands work Running s h at = at
running_stands work Finished s h at = absurd (cc)
running_stands work Limit s h at = absurd (cc)
running_stands work (Fault fault) s h at = absurd (cc)

-- ---- spots

pub all_back : (spots : List Spot) → all_set (map is_returned spots) ≡ true → spots ≡ replicate (length spots) Returned
all_back [] h = refl
all_back (Home ∷ spots) h = absurd (cc)
all_back (Gone ∷ spots) h = absurd (cc)
all_back (Returned ∷ spots) h = ap (λ xs. Returned ∷ xs) (all_back spots h)

none_back : (n : ℕ) → map is_returned (replicate n Home) ≡ replicate n false
none_back zero = refl
none_back (suc n) = ap (λ xs. false ∷ xs) (none_back n)

none_gone : (n k : ℕ) → get_or (replicate n Home) k Home ≡ Gone → ⊥
none_gone zero k h = cc
none_gone (suc n) zero h = cc
none_gone (suc n) (suc k) h = none_gone n k h

pub map_set : {A B : Type 0} (f : A → B) (xs : List A) (i : ℕ) (x : A) → map f (set xs i x) ≡ set (map f xs) i (f x)
map_set f [] i x = refl
map_set f (y ∷ ys) zero x = refl
map_set f (y ∷ ys) (suc i) x = ap (λ zs. f y ∷ zs) (map_set f ys i x)

returned_gone : (spots : List Spot) (p : ℕ) → get_or (map is_returned spots) p true ≡ false → map is_returned (set spots p Gone) ≡ map is_returned spots
returned_gone [] p h = refl
returned_gone (x ∷ xs) zero h = ap (λ b. b ∷ map is_returned xs) (sym h)
returned_gone (x ∷ xs) (suc p) h = ap (λ bs. is_returned x ∷ bs) (returned_gone xs p h)

spot_open : (spots : List Spot) (p : ℕ) → p < length spots → get_or (map is_returned spots) p true ≡ false → (get_or spots p Home ≡ Gone → ⊥) → get_or spots p Gone ≡ Home
spot_open [] p lt h n = absurd (omega arith)
spot_open (Home ∷ xs) zero lt h n = refl
spot_open (Gone ∷ xs) zero lt h n = absurd (n refl)
spot_open (Returned ∷ xs) zero lt h n = absurd (cc)
spot_open (x ∷ xs) (suc p) lt h n = spot_open xs p (let l : p < length xs = omega arith in l) h n

length-map_returned : (spots : List Spot) → length (map is_returned spots) ≡ length spots
length-map_returned [] = refl
length-map_returned (x ∷ xs) = ap (λ n. suc n) (length-map_returned xs)

-- ---- the parts of a state

pub parts_home : (work : Work) (m : Machine) (e s since : ℕ) (placement : Placement) → placement ≡ all_home e s since work.settings.parts → e ≤ m.epoch → is_running m.ending ≡ true → s ≡ m.superstep → m.superstep < work.settings.limit → m.done ≡ replicate work.settings.parts false → IsSound m → AreParts work m placement
parts_home work m e s since placement is before run at early done sound =
    subst (λ x. AreParts work m x) (sym is) (record {
      epoch = before;
      running = run;
      superstep = at;
      early = early;
      done = done ∙ sym (none_back work.settings.parts);
      many = length-replicate work.settings.parts Home;
      sound = sound;
      backed = λ part lt e. absurd (none_gone work.settings.parts part e);
    })

-- a job that runs has its parts
pub runs : (work : Work) (honest : ℕ → Bool) (m : Machine) {J : _} (job_data : JobData J) → HoldsData work honest m job_data → is_running m.ending ≡ true → (placement : Placement) × (job_data ≡ Parts placement) × AreParts work m placement
runs work honest m (Parts placement) h run = (placement, refl, h)
runs work honest m (Whole state) h run = absurd (running_not_answer m.ending run h.answer)
runs work honest m Nothing h run = absurd (running_not_fault m.ending run h)

-- ---- numbers that nothing hangs on

held_rest : (work : Work) (honest : ℕ → Bool) (m : Machine) {J : _} (job_data : JobData J) (waiting : List Bool) (age spent : List ℕ) (missed restarts : ℕ) → HoldsData work honest m job_data → HoldsData work honest (with_rest m waiting age spent missed restarts) job_data
held_rest work honest m (Parts placement) waiting age spent missed restarts h = record { epoch = h.epoch; running = h.running; superstep = h.superstep; early = h.early; done = h.done; many = h.many; sound = sound_rest m waiting age spent missed restarts h.sound; backed = h.backed }
held_rest work honest m (Whole state) waiting age spent missed restarts h = record { answer = h.answer; superstep = h.superstep; ids = h.ids; at = h.at; quiet = h.quiet }
held_rest work honest m Nothing waiting age spent missed restarts h = h

pub book_rest : (work : Work) (honest : ℕ → Bool) (own : Work) (m : Machine) (ids : List ℕ) {J : _} (job_data : JobData J) (waiting : List Bool) (age spent : List ℕ) (missed restarts : ℕ) → IsBook work honest own m ids job_data → IsBook work honest own (with_rest m waiting age spent missed restarts) ids job_data
book_rest work honest own m ids job_data waiting age spent missed restarts b = record {
  job = b.job;
  settings = b.settings;
  knows = b.knows;
  past = b.past;
  held = held_rest work honest m job_data waiting age spent missed restarts b.held;
  reached = λ t. let r = b.reached t in record { busy = r.busy; saved = r.saved; stands = r.stands };
}

-- ---- an end by a fault

pub book_ended : (work : Work) (honest : ℕ → Bool) (own : Work) (m : Machine) (ids : List ℕ) {J : _} (job_data none : JobData J) (fault : JobFault) → none ≡ Nothing → IsBook work honest own m ids job_data → IsBook work honest own (ended_by fault m) ids none
book_ended work honest own m ids job_data none fault is b = record {
  job = b.job;
  settings = b.settings;
  knows = b.knows;
  past = b.past;
  held = subst (λ h. HoldsData work honest (ended_by fault m) h) (sym is) refl;
  reached = λ t. let r = b.reached t in record { busy = r.busy; saved = r.saved; stands = tt };
}

-- ---- a state that has come

-- all but what is held
pub record IsFresh (work : Work) (honest : ℕ → Bool) (m : Machine) : Type 0 where
  pub settings : m.settings ≡ work.settings
  pub past : saved_or_first m.saved ≤ m.superstep
  pub reached : honest m.epoch ≡ true → IsReached work m
  pub early : is_running m.ending ≡ true → m.superstep < work.settings.limit
  pub sound : IsSound m
  pub done : m.done ≡ replicate work.settings.parts false

busy_more : (work : Work) (s : ℕ) → WasBusy work s → IsQuietAt work s false → WasBusy work (suc s)
busy_more work s busy here = λ meaning t lt.
    below_more (λ k. is_quiet (state_at meaning.outcomes meaning.graph k) ≡ false) s (busy meaning) (here meaning) t (let l : t < s + 1 = omega (arith, lt) in l)

ends_by_limit : (work : Work) (s : ℕ) (b : Bool) → b ≡ nat_lt s work.settings.limit → IsQuietAt work s false → s ≤ work.settings.limit → StandsAt work (cond b Running Limit) s
ends_by_limit work s true t e le = (e, grind arith)
ends_by_limit work s false t e le = (e, grind arith)

ends_at : (work : Work) (quiet : Bool) (s : ℕ) → IsQuietAt work s quiet → s ≤ work.settings.limit → StandsAt work (ending_at quiet s work.settings.limit) s
ends_at work true s e le = (e, le)
ends_at work false s e le = ends_by_limit work s (nat_lt s work.settings.limit) refl e le

reached_closed : (work : Work) (m : Machine) (quiet : Bool) → IsReached work m → is_running m.ending ≡ true → m.settings ≡ work.settings → IsQuietAt work (suc m.superstep) quiet → IsReached work (closed quiet m)
reached_closed work m quiet r run same at =
    let now = running_stands work m.ending m.superstep run r.stands in
    let next = m.superstep + 1 in
    record {
      busy = subst (λ n. WasBusy work n) (sym (add-one m.superstep)) (busy_more work m.superstep r.busy now.0);
      saved = r.saved;
      stands = subst (λ (x : Settings). StandsAt work (ending_at quiet next x.limit) next) (sym same)
          (ends_at work quiet next (subst (λ n. IsQuietAt work n quiet) (sym (add-one m.superstep)) at) (let below = now.1 in omega (arith, below)));
    }

early_if : (s limit : ℕ) (b : Bool) → b ≡ nat_lt s limit → is_running (cond b Running Limit) ≡ true → s < limit
early_if s limit true e r = grind arith
early_if s limit false e r = absurd (cc)

running_early : (quiet : Bool) (s limit : ℕ) → is_running (ending_at quiet s limit) ≡ true → s < limit
running_early true s limit r = absurd (cc)
running_early false s limit r = early_if s limit (nat_lt s limit) refl r

pub fresh_closed : (work : Work) (honest : ℕ → Bool) (own : Work) (m : Machine) (ids : List ℕ) {J : _} (job_data : JobData J) (quiet : Bool) → IsBook work honest own m ids job_data → is_running m.ending ≡ true → all_set m.done ≡ true → (honest m.epoch ≡ true → IsQuietAt work (suc m.superstep) quiet) → IsFresh work honest (closed quiet m)
fresh_closed work honest own m ids job_data quiet b run all at =
    let h = (runs work honest m job_data b.held run).2 in
    let long = ap length h.done ∙ length-map_returned (runs work honest m job_data b.held run).0.spots ∙ h.many in
    record {
      settings = b.settings;
      past = let p = b.past in omega (arith, p);
      reached = λ t. reached_closed work m quiet (b.reached t) run b.settings (at t);
      early = λ r. subst (λ (x : Settings). m.superstep + 1 < x.limit) b.settings (running_early quiet (m.superstep + 1) m.settings.limit r);
      sound = sound_closed m quiet all h.sound;
      done = ap (λ n. replicate n false) long;
    }

fresh_saved : (work : Work) (honest : ℕ → Bool) (m : Machine) (told : DeviceResult) → is_running m.ending ≡ true → IsFresh work honest m → IsFresh work honest (after_save told m)
fresh_saved work honest m Good run f = record {
  settings = f.settings;
  past = omega arith;
  early = f.early;
  sound = sound_ending m m.ending (Some m.superstep) f.sound;
  done = f.done;
  reached = λ t. let r = f.reached t in record { busy = r.busy; saved = busy_more work m.superstep r.busy (running_stands work m.ending m.superstep run r.stands).0; stands = r.stands };
}
fresh_saved work honest m Failed run f = record {
  settings = f.settings;
  past = f.past;
  early = f.early;
  sound = sound_rest m m.waiting m.age m.spent (one_more m.missed) m.restarts f.sound;
  done = f.done;
  reached = λ t. let r = f.reached t in record { busy = r.busy; saved = r.saved; stands = r.stands };
}
fresh_saved work honest m NoMemory run f = record {
  settings = f.settings;
  past = f.past;
  early = λ r. absurd (cc);
  sound = sound_ending m (Fault (OutOfMemory Save)) m.saved f.sound;
  done = f.done;
  reached = λ t. let r = f.reached t in record { busy = r.busy; saved = r.saved; stands = tt };
}

fresh_saving_if : (work : Work) (honest : ℕ → Bool) (m : Machine) (told : DeviceResult) (c : Bool) → (c ≡ true → is_running m.ending ≡ true) → IsFresh work honest m → IsFresh work honest (cond c (after_save told m) m)
fresh_saving_if work honest m told true run f = fresh_saved work honest m told (run refl) f
fresh_saving_if work honest m told false run f = f

both_first : (a b : Bool) → (a && b) ≡ true → a ≡ true
both_first true b h = refl
both_first false b h = absurd (cc)

pub fresh_saving : (work : Work) (honest : ℕ → Bool) (m : Machine) (told : DeviceResult) → IsFresh work honest m → IsFresh work honest (saving told m)
fresh_saving work honest m told f = fresh_saving_if work honest m told (is_saved_now m) (λ e. both_first (is_running m.ending) _ e) f

fresh_slicing_if : (work : Work) (honest : ℕ → Bool) (m : Machine) (c : Bool) → IsFresh work honest m → IsFresh work honest (cond c (ended_by (OutOfMemory Slice) m) m)
fresh_slicing_if work honest m true f = record {
  settings = f.settings;
  past = f.past;
  early = λ r. absurd (cc);
  sound = sound_ending m (Fault (OutOfMemory Slice)) m.saved f.sound;
  done = f.done;
  reached = λ t. let r = f.reached t in record { busy = r.busy; saved = r.saved; stands = tt };
}
fresh_slicing_if work honest m false f = f

pub fresh_slicing : (work : Work) (honest : ℕ → Bool) (m : Machine) (sliced : Bool) → IsFresh work honest m → IsFresh work honest (slicing sliced m)
fresh_slicing work honest m sliced f = fresh_slicing_if work honest m (is_running m.ending && not sliced) f

-- a save leaves the superstep, and how the job stands but for a fault
superstep_saving_if : (m : Machine) (told : DeviceResult) (c : Bool) → (cond c (after_save told m) m).superstep ≡ m.superstep
superstep_saving_if m Good true = refl
superstep_saving_if m Failed true = refl
superstep_saving_if m NoMemory true = refl
superstep_saving_if m told false = refl

pub superstep_saving : (m : Machine) (told : DeviceResult) → (saving told m).superstep ≡ m.superstep
superstep_saving m told = superstep_saving_if m told (is_saved_now m)

superstep_slicing_if : (m : Machine) (c : Bool) → (cond c (ended_by (OutOfMemory Slice) m) m).superstep ≡ m.superstep
superstep_slicing_if m true = refl
superstep_slicing_if m false = refl

pub superstep_slicing : (m : Machine) (sliced : Bool) → (slicing sliced m).superstep ≡ m.superstep
superstep_slicing m sliced = superstep_slicing_if m (is_running m.ending && not sliced)

epoch_saving_if : (m : Machine) (told : DeviceResult) (c : Bool) → (cond c (after_save told m) m).epoch ≡ m.epoch
epoch_saving_if m Good true = refl
epoch_saving_if m Failed true = refl
epoch_saving_if m NoMemory true = refl
epoch_saving_if m told false = refl

pub epoch_saving : (m : Machine) (told : DeviceResult) → (saving told m).epoch ≡ m.epoch
epoch_saving m told = epoch_saving_if m told (is_saved_now m)

answer_saving_if : (m : Machine) (told : DeviceResult) (c : Bool) → has_answer (cond c (after_save told m) m).ending ≡ true → (cond c (after_save told m) m).ending ≡ m.ending
answer_saving_if m Good true h = refl
answer_saving_if m Failed true h = refl
answer_saving_if m NoMemory true h = absurd (cc)
answer_saving_if m told false h = refl

finished_limit : (b : Bool) → has_finished (cond b Running Limit) ≡ false
finished_limit true = refl
finished_limit false = refl

finished_at : (quiet : Bool) (s limit : ℕ) → has_finished (ending_at quiet s limit) ≡ quiet
finished_at true s limit = refl
finished_at false s limit = finished_limit (nat_lt s limit)

-- where the job has an answer now, it has finished if nothing is to be called
pub finished_saving : (m : Machine) (quiet : Bool) (told : DeviceResult) → has_answer (saving told (closed quiet m)).ending ≡ true → has_finished (saving told (closed quiet m)).ending ≡ quiet
finished_saving m quiet told h =
    let x = closed quiet m in
    ap (λ e. has_finished e) (answer_saving_if x told (is_saved_now x) h) ∙ finished_at quiet (m.superstep + 1) m.settings.limit

-- ---- a superstep is closed

length-either : (alive waiting : List Bool) → length (either alive waiting) ≡ length alive
length-either alive waiting = length-by_place (λ w a. a || get_or waiting w false) 0 alive

abbrev new_epoch : Machine → Machine
new_epoch m = record (joined m) { epoch = m.epoch + 1 }

held_welcomed_if : (work : Work) (honest : ℕ → Bool) (own : Work) (m : Machine) (ids : List ℕ) {J : _} (job_data : JobData J) (s since : ℕ) (placement : Placement) (c : Bool) → Lasts honest → own ≡ work → AreIdsOf work ids → IsFresh work honest m → is_running m.ending ≡ true → s ≡ m.superstep → placement ≡ all_home m.epoch s since work.settings.parts → job_data ≡ Parts placement → IsBook work honest own (cond c (new_epoch m) m) ids job_data
held_welcomed_if work honest own m ids job_data s since placement true lasts job is_ids f run at is all = record {
  job = job;
  settings = f.settings;
  knows = is_ids;
  past = f.past;
  held = subst (λ h. HoldsData work honest (new_epoch m) h) (sym all) (parts_home work (new_epoch m) m.epoch s since placement is (omega arith) run at (f.early run) f.done (sound_anew m (new_epoch m) f.sound refl (length-either m.alive m.waiting) refl));
  reached = λ t. let r = f.reached (lasts (m.epoch + 1) m.epoch (omega arith) t) in record { busy = r.busy; saved = r.saved; stands = r.stands };
}
held_welcomed_if work honest own m ids job_data s since placement false lasts job is_ids f run at is all = record {
  job = job;
  settings = f.settings;
  knows = is_ids;
  past = f.past;
  held = subst (λ h. HoldsData work honest m h) (sym all) (parts_home work m m.epoch s since placement is (omega arith) run at (f.early run) f.done f.sound);
  reached = f.reached;
}

welcomed_over_if : (m : Machine) (a b : Bool) → a ≡ false → cond (a && b) (new_epoch m) m ≡ m
welcomed_over_if m true b h = absurd (cc)
welcomed_over_if m false b h = refl

-- after the end nobody is welcomed
pub welcomed_over : (m : Machine) → is_running m.ending ≡ false → welcomed m ≡ m
welcomed_over m h = welcomed_over_if m (is_running m.ending) (nat_lt 0 (count_set m.waiting)) h

pub book_shut : (work : Work) (honest : ℕ → Bool) (own : Work) (m m' : Machine) (ids : List ℕ) {J : _} (job_data : JobData J) (quiet : Bool) (state : Standing) → Lasts honest → own ≡ work → AreIdsOf work ids → IsFresh work honest m → IsFresh work honest m' → state.superstep ≡ m.superstep → HasIdsOf work state → (honest m.epoch ≡ true → IsFullStateAt work state.superstep state) → (has_answer m.ending ≡ true → has_finished m.ending ≡ quiet) → quiet ≡ is_settled state → IsHeldOf work.settings.parts m m' state job_data → IsBook work honest own (welcomed m') ids job_data
book_shut work honest own m m' ids {J = J} (Parts placement) quiet state lasts job is_ids f f' at has at' ends settled h =
    subst (λ x. IsBook work honest own (welcomed x) ids {J = J} (Parts placement)) (sym h.1)
    (held_welcomed_if work honest own m ids {J = J} (Parts placement) state.superstep state.since placement (is_running m.ending && nat_lt 0 (count_set m.waiting)) lasts job is_ids f h.0 at h.2 refl)
book_shut work honest own m m' ids {J = J} (Whole whole) quiet state lasts job is_ids f f' at has at' ends settled h =
    let over = answer_not_running m.ending h.0 in
    let kept : IsBook work honest own m ids {J = J} (Whole state) = record {
      job = job;
      settings = f.settings;
      knows = is_ids;
      past = f.past;
      reached = f.reached;
      held = record { answer = h.0; superstep = at; ids = has; at = at'; quiet = sym (ends h.0 ∙ settled) };
    } in
    subst (λ x. IsBook work honest own (welcomed x) ids {J = J} (Whole whole)) (sym h.1)
    (subst (λ x. IsBook work honest own x ids {J = J} (Whole whole)) (sym (welcomed_over m over))
    (subst (λ x. IsBook work honest own m ids {J = J} (Whole x)) (sym h.2) kept))
book_shut work honest own m m' ids {J = J} Nothing quiet state lasts job is_ids f f' at has at' ends settled h =
    subst (λ x. IsBook work honest own x ids {J = J} Nothing) (sym (welcomed_over m' (fault_not_running m'.ending h))) (record {
      job = job;
      settings = f'.settings;
      knows = is_ids;
      past = f'.past;
      held = h;
      reached = f'.reached;
    })

-- ---- workers are lost

abbrev pub with_alive : Machine → List Bool → Machine
with_alive m alive = record m { alive = alive }

-- nobody is left
pub book_alone : (work : Work) (honest : ℕ → Bool) (own : Work) (m : Machine) (ids : List ℕ) {J : _} (job_data none : JobData J) (alive : List Bool) → none ≡ Nothing → IsBook work honest own m ids job_data → IsBook work honest own (ended_by NoWorkers (joined (with_alive m alive))) ids none
book_alone work honest own m ids job_data none alive is b = record {
  job = b.job;
  settings = b.settings;
  knows = b.knows;
  past = b.past;
  held = subst (λ h. HoldsData work honest (ended_by NoWorkers (joined (with_alive m alive))) h) (sym is) refl;
  reached = λ t. let r = b.reached t in record { busy = r.busy; saved = r.saved; stands = tt };
}

reached_back : (work : Work) (m : Machine) (saved : Option ℕ) → IsReached work m → is_running m.ending ≡ true → WasBusyTo work saved → saved_or_first saved ≤ m.superstep → WasBusy work (saved_or_first saved) × StandsAt work Running (saved_or_first saved)
reached_back work m None x run to le =
    let now = running_stands work m.ending m.superstep run x.stands in
    let all = busy_more work m.superstep x.busy now.0 in
    let below = now.1 in
    (λ meaning k lt. absurd (omega arith), (λ meaning. all meaning 0 (omega arith), omega (arith, below)))
reached_back work m (Some s) x run to le =
    let now = running_stands work m.ending m.superstep run x.stands in
    let below = now.1 in
    (λ meaning k lt. to meaning k (omega (arith, lt)), (λ meaning. to meaning s (omega arith), omega (arith, below, le)))

long_done : (work : Work) (honest : ℕ → Bool) (own : Work) (m : Machine) (ids : List ℕ) {J : _} (job_data : JobData J) → IsBook work honest own m ids job_data → is_running m.ending ≡ true → none_set m.done ≡ replicate work.settings.parts false
long_done work honest own m ids job_data b run =
    let h = (runs work honest m job_data b.held run).2 in
    ap (λ n. replicate n false) (ap length h.done ∙ length-map_returned (runs work honest m job_data b.held run).0.spots ∙ h.many)

fresh_anew : (work : Work) (honest : ℕ → Bool) (own : Work) (m : Machine) (ids : List ℕ) {J : _} (job_data : JobData J) (alive : List Bool) → Lasts honest → length alive ≡ length m.alive → IsBook work honest own m ids job_data → is_running m.ending ≡ true → IsFresh work honest (begun_anew (joined (with_alive m alive)))
fresh_anew work honest own m ids job_data alive lasts wide b run =
    let h = (runs work honest m job_data b.held run).2 in
    record {
      settings = b.settings;
      past = omega arith;
      early = λ r. let past = b.past in let early = h.early in omega (arith, past, early);
      reached = λ t. let x = b.reached (lasts (m.epoch + 1) m.epoch (omega arith) t) in let y = reached_back work m m.saved x run x.saved b.past in
          record { busy = y.0; saved = x.saved; stands = subst (λ e. StandsAt work e (saved_or_first m.saved)) (sym (running_is m.ending run)) y.1 };
      sound = sound_anew m (begun_anew (joined (with_alive m alive))) h.sound refl (length-either alive m.waiting ∙ wide) refl;
      done = long_done work honest own m ids job_data b run;
    }

fresh_restarted : (work : Work) (honest : ℕ → Bool) (own : Work) (m : Machine) (ids : List ℕ) {J : _} (job_data : JobData J) (alive : List Bool) → Lasts honest → length alive ≡ length m.alive → IsBook work honest own m ids job_data → is_running m.ending ≡ true → IsFresh work honest (restarted (begun_anew (joined (with_alive m alive))))
fresh_restarted work honest own m ids job_data alive lasts wide b run =
    let h = (runs work honest m job_data b.held run).2 in
    record {
      settings = b.settings;
      past = omega arith;
      early = λ r. let early = h.early in omega (arith, early);
      reached = λ t. let x = b.reached (lasts (m.epoch + 1) m.epoch (omega arith) t) in let y = reached_back work m None x run tt (omega arith) in
          record { busy = y.0; saved = tt; stands = subst (λ e. StandsAt work e 0) (sym (running_is m.ending run)) y.1 };
      sound = sound_anew m (restarted (begun_anew (joined (with_alive m alive)))) h.sound refl (length-either alive m.waiting ∙ wide) refl;
      done = long_done work honest own m ids job_data b run;
    }

fresh_unloaded : (work : Work) (honest : ℕ → Bool) (m : Machine) → IsFresh work honest m → IsFresh work honest (ended_by (OutOfMemory Load) m)
fresh_unloaded work honest m f = record {
  settings = f.settings;
  past = f.past;
  early = λ r. absurd (cc);
  sound = sound_ending m (Fault (OutOfMemory Load)) m.saved f.sound;
  done = f.done;
  reached = λ t. let r = f.reached t in record { busy = r.busy; saved = r.saved; stands = tt };
}

-- whatever the load told
pub fresh_loaded : (work : Work) (honest : ℕ → Bool) (own : Work) (m : Machine) (ids : List ℕ) {J : _} (job_data : JobData J) (alive : List Bool) (saved : Option ℕ) (told : DeviceResult) → Lasts honest → length alive ≡ length m.alive → IsBook work honest own m ids job_data → is_running m.ending ≡ true → IsFresh work honest (loading saved told (begun_anew (joined (with_alive m alive))))
fresh_loaded work honest own m ids job_data alive None told lasts wide b run = fresh_anew work honest own m ids job_data alive lasts wide b run
fresh_loaded work honest own m ids job_data alive (Some s) Good lasts wide b run = fresh_anew work honest own m ids job_data alive lasts wide b run
fresh_loaded work honest own m ids job_data alive (Some s) Failed lasts wide b run = fresh_restarted work honest own m ids job_data alive lasts wide b run
fresh_loaded work honest own m ids job_data alive (Some s) NoMemory lasts wide b run = fresh_unloaded work honest (begun_anew (joined (with_alive m alive))) (fresh_anew work honest own m ids job_data alive lasts wide b run)

pub book_back : (work : Work) (honest : ℕ → Bool) (own : Work) (m : Machine) (ids : List ℕ) {J : _} (job_data : JobData J) → own ≡ work → AreIdsOf work ids → IsFresh work honest m → StandsBack work.settings.parts m.superstep m job_data → IsBook work honest own m ids job_data
book_back work honest own m ids (Parts placement) job is_ids f h = record {
  job = job;
  settings = f.settings;
  knows = is_ids;
  past = f.past;
  reached = f.reached;
  held = parts_home work m m.epoch m.superstep h.1.0 placement h.1.1 (omega arith) h.0 refl (f.early h.0) f.done f.sound;
}
book_back work honest own m ids (Whole state) job is_ids f h = absurd h
book_back work honest own m ids Nothing job is_ids f h = record { job = job; settings = f.settings; knows = is_ids; past = f.past; reached = f.reached; held = h }

-- ---- tasks

backed_freed : (m : Machine) (spots : List Spot) (w : ℕ) → HasNone m w → IsBacked m spots → IsBacked (freed m w) spots
backed_freed m spots w never b p lt e =
    let x = b p lt e in
    let ne : x.0 ≢ w = λ same. never x.1 (subst (λ k. get_or m.out k None ≡ Some x.1) same x.3) x.4 in
    (x.0, x.1, rw length-set x.2, get_or-set_other m.out w x.0 None None ne ∙ x.3, x.4, x.5)

held_freed : (work : Work) (honest : ℕ → Bool) (m : Machine) {J : _} (job_data : JobData J) (w : ℕ) → w < length m.out → HasNone m w → HoldsData work honest m job_data → HoldsData work honest (freed m w) job_data
held_freed work honest m (Parts placement) w lt never h = record { epoch = h.epoch; running = h.running; superstep = h.superstep; early = h.early; done = h.done; many = h.many; sound = sound_freed m w lt h.sound; backed = backed_freed m placement.spots w never h.backed }
held_freed work honest m (Whole state) w lt never h = record { answer = h.answer; superstep = h.superstep; ids = h.ids; at = h.at; quiet = h.quiet }
held_freed work honest m Nothing w lt never h = h

pub book_freed : (work : Work) (honest : ℕ → Bool) (own : Work) (m : Machine) (ids : List ℕ) {J : _} (job_data : JobData J) (w : ℕ) → w < length m.out → HasNone m w → IsBook work honest own m ids job_data → IsBook work honest own (freed m w) ids job_data
book_freed work honest own m ids job_data w lt never b = record {
  job = b.job;
  settings = b.settings;
  knows = b.knows;
  past = b.past;
  held = held_freed work honest m job_data w lt never b.held;
  reached = λ t. let r = b.reached t in record { busy = r.busy; saved = r.saved; stands = r.stands };
}

pub book_waits : (work : Work) (honest : ℕ → Bool) (own : Work) (m : Machine) (ids : List ℕ) {J : _} (job_data : JobData J) (w : ℕ) → w < length m.out → HasNone m w → IsBook work honest own m ids job_data → IsBook work honest own (waits m w) ids job_data
book_waits work honest own m ids job_data w lt never b =
    book_rest work honest own (freed m w) ids job_data (set m.waiting w true) m.age m.spent m.missed m.restarts (book_freed work honest own m ids job_data w lt never b)

backed_taken : (m : Machine) (spots : List Spot) (w : ℕ) (task : Out) → w < length m.out → get_or m.out w None ≡ Some task → IsBacked m spots → task.part < length spots → IsBacked (finished (freed m w) task.part) (set spots task.part Returned)
backed_taken m spots w task lt is b in_range p plt e =
    let ne : p ≢ task.part = λ same. let z : Returned ≡ Gone = sym (get_or-set_same spots task.part Returned Home in_range) ∙ subst (λ k. get_or (set spots task.part Returned) k Home ≡ Gone) same e in absurd (cc) in
    let y = b p (subst (λ n. p < n) (length-set spots task.part Returned) plt) (sym (get_or-set_other spots task.part p Returned Home ne) ∙ e) in
    let nw : y.0 ≢ w = λ same. let z : Some task ≡ Some y.1 = sym is ∙ subst (λ k. get_or m.out k None ≡ Some y.1) same y.3 in let z' : task ≡ y.1 = cc in ne (sym y.5 ∙ ap (λ t. t.part) (sym z')) in
    (y.0, y.1, rw length-set y.2, get_or-set_other m.out w y.0 None None nw ∙ y.3, y.4, y.5)

pub book_taken : (work : Work) (honest : ℕ → Bool) (own : Work) (m : Machine) (ids : List ℕ) {J : _} (job_data after : JobData J) (w : ℕ) (task : Out) (placement : Placement) → w < length m.out → is_running m.ending ≡ true → counts m w task ≡ true → job_data ≡ Parts placement → after ≡ Parts (returned placement task.part task.epoch) → IsBook work honest own m ids job_data → IsBook work honest own (finished (freed m w) task.part) ids after
book_taken work honest own m ids job_data after w task placement lt run h is is' b =
    let x : AreParts work m placement = subst (λ k. HoldsData work honest m k) is b.held in
    let p = counted_part m w task x.sound lt h in
    let wide : length m.done ≡ length placement.spots = ap length x.done ∙ length-map_returned placement.spots in
    record {
      job = b.job;
      settings = b.settings;
      knows = b.knows;
      past = b.past;
      held = subst (λ k. HoldsData work honest (finished (freed m w) task.part) k) (sym is') (record {
        epoch = let same = (counts_is m w task h).1.1 in omega (arith, same);
        running = x.running;
        superstep = x.superstep;
        early = x.early;
        done = ap (λ ds. set ds task.part true) x.done ∙ sym (map_set is_returned placement.spots task.part Returned);
        many = length-set placement.spots task.part Returned ∙ x.many;
        sound = sound_taken m w task x.sound lt h;
        backed = backed_taken m placement.spots w task lt (counts_is m w task h).1.0 x.backed (subst (λ n. task.part < n) wide p.1.0);
      });
      reached = λ t. let r = b.reached t in record { busy = r.busy; saved = r.saved; stands = r.stands };
    }

backed_handed : (m : Machine) (spots : List Spot) (w p : ℕ) → w < length m.out → get_or m.out w None ≡ None → IsBacked m spots → IsBacked (handed m w p) (set spots p Gone)
backed_handed m spots w p lt free b q qlt e =
    elim (same_or_not q p) [
      | inl same ↦ (w, task_of m p, rw length-set lt, get_or-set_same m.out w (Some (task_of m p)) None lt, refl, sym same)
      | inr ne ↦ (let y = b q (subst (λ n. q < n) (length-set spots p Gone) qlt) (sym (get_or-set_other spots p q Gone Home ne) ∙ e) in
          let nw : y.0 ≢ w = λ same. let z : None ≡ Some y.1 = sym free ∙ subst (λ k. get_or m.out k None ≡ Some y.1) same y.3 in absurd (cc) in
          (y.0, y.1, rw length-set y.2, get_or-set_other m.out w y.0 (Some (task_of m p)) None nw ∙ y.3, y.4, y.5))
    ]

open_spot : (work : Work) (m : Machine) (placement : Placement) (p : ℕ) → AreParts work m placement → IsOpen m.done p → (p < length placement.spots) × (get_or (map is_returned placement.spots) p true ≡ false)
open_spot work m placement p x open' =
    (subst (λ n. p < n) (ap length x.done ∙ length-map_returned placement.spots) open'.0, subst (λ ds. get_or ds p true ≡ false) x.done open'.1)

-- where a part is handed out its slice is here
pub hand_home : (work : Work) (m : Machine) (placement : Placement) (w p : ℕ) → AreParts work m placement → hand m w ≡ Some p → IsOpen m.done p → IsHome placement p
hand_home work m placement w p x e open' =
    let s = open_spot work m placement p x open' in
    let h = hand_is m w p e in (
      s.0,
      spot_open placement.spots p s.0 s.1 (λ gone.
          let a = x.backed p s.0 gone in
          let y = x.sound.outs a.0 a.1 a.2 a.3 in
          let ne : a.0 ≢ w = λ same. let z : None ≡ Some a.1 = sym (hand_free m w p e) ∙ subst (λ k. get_or m.out k None ≡ Some a.1) same a.3 in absurd (cc) in
          apart m a.0 w p a.1.part ne (y.alive a.4) h.1.0 (y.own a.4) h.1.1 a.5),
    )

pub book_handed : (work : Work) (honest : ℕ → Bool) (own : Work) (m : Machine) (ids : List ℕ) {J : _} (job_data after : JobData J) (w p : ℕ) (placement : Placement) → w < length m.out → IsOpen m.done p → hand m w ≡ Some p → job_data ≡ Parts placement → after ≡ Parts (moved placement p Gone) → IsBook work honest own m ids job_data → IsBook work honest own (handed m w p) ids after
book_handed work honest own m ids job_data after w p placement lt open' e is is' b =
    let x : AreParts work m placement = subst (λ k. HoldsData work honest m k) is b.held in
    let s = open_spot work m placement p x open' in
    record {
      job = b.job;
      settings = b.settings;
      knows = b.knows;
      past = b.past;
      held = subst (λ k. HoldsData work honest (handed m w p) k) (sym is') (record {
        epoch = x.epoch;
        running = x.running;
        superstep = x.superstep;
        early = x.early;
        done = x.done ∙ sym (returned_gone placement.spots p s.1);
        many = length-set placement.spots p Gone ∙ x.many;
        sound = sound_handed m w p x.sound lt open' e;
        backed = backed_handed m placement.spots w p lt (hand_free m w p e) x.backed;
      });
      reached = λ t. let r = b.reached t in record { busy = r.busy; saved = r.saved; stands = r.stands };
    }

-- ---- as the code has them

first_if : (limit : ℕ) (b : Bool) → b ≡ nat_lt 0 limit → 0 < limit → cond b Running Limit ≡ Running
first_if limit true e h = refl
first_if limit false e h = absurd (grind arith)

running_first : (quiet : Bool) (limit : ℕ) → quiet ≡ false → 0 < limit → ending_at quiet 0 limit ≡ Running
running_first true limit h some = absurd (cc)
running_first false limit h some = first_if limit (nat_lt 0 limit) refl some

settled_rows : (rows : List Row) → list_any is_due (map bare rows) ≡ list_any is_called rows
settled_rows [] = refl
settled_rows (row ∷ rows) = ap (λ b. is_called row || b) (settled_rows rows)

-- nothing is to be called in a state exactly where nothing is in what it shows
pub settled_quiet : (work : Work) (s : ℕ) (state : Standing) → IsFullStateAt work s state → IsQuietAt work s (is_settled state)
settled_quiet work s state at = λ meaning.
    sym (ap (λ (vertices : List VertexState). not (list_any is_due vertices)) (at.at meaning).vertices
    ∙ ap not (settled_rows (state_at meaning.outcomes meaning.graph s).rows))

pub all_returned_is : (work : Work) (m : Machine) (placement : Placement) → AreParts work m placement → all_set m.done ≡ true → placement.spots ≡ replicate work.settings.parts Returned
all_returned_is work m placement x h = all_back placement.spots (subst (λ ds. all_set ds ≡ true) x.done h) ∙ ap (λ n. replicate n Returned) x.many

-- a result that counts is of a part of this superstep
pub takes : (work : Work) (honest : ℕ → Bool) (m : Machine) {J : _} (job_data : JobData J) (w : ℕ) (done : DoneStamp) → HoldsData work honest m job_data → is_running m.ending ≡ true → w < length m.alive → counts m w (done_out done) ≡ true → FitsPart job_data done
takes work honest m (Parts placement) w done x run lt h =
    let p = counted_part m w (done_out done) x.sound (rw x.sound.width lt) h in
    (p.0 ∙ sym x.superstep, subst (λ n. done.part < n) (ap length x.done ∙ length-map_returned placement.spots) p.1.0, subst (λ n. placement.epoch ≤ n) (sym (counts_is m w (done_out done) h).1.1) x.epoch)
takes work honest m (Whole state) w done x run lt h = absurd (running_not_answer m.ending run x.answer)
takes work honest m Nothing w done x run lt h = absurd (running_not_fault m.ending run x)

pub counted_open : (work : Work) (honest : ℕ → Bool) (m : Machine) {J : _} (job_data : JobData J) (w : ℕ) (task : Out) → HoldsData work honest m job_data → is_running m.ending ≡ true → w < length m.alive → counts m w task ≡ true → task.part < length m.done
counted_open work honest m (Parts placement) w task x run lt h = (counted_part m w task x.sound (rw x.sound.width lt) h).1.0
counted_open work honest m (Whole state) w task x run lt h = absurd (running_not_answer m.ending run x.answer)
counted_open work honest m Nothing w task x run lt h = absurd (running_not_fault m.ending run x)

pub has_home : (work : Work) (honest : ℕ → Bool) (m : Machine) {J : _} (job_data : JobData J) (w p : ℕ) → HoldsData work honest m job_data → hand m w ≡ Some p → IsOpen m.done p → HasHome job_data p
has_home work honest m (Parts placement) w p x e open' = hand_home work m placement w p x e open'
has_home work honest m (Whole state) w p x e open' = absurd (running_not_answer m.ending (hand_is m w p e).0 x.answer)
has_home work honest m Nothing w p x e open' = absurd (running_not_fault m.ending (hand_is m w p e).0 x)

-- it is of this superstep
pub home_superstep : (work : Work) (honest : ℕ → Bool) (m : Machine) {J : _} (job_data : JobData J) (s : ℕ) → HoldsData work honest m job_data → Runs job_data (λ placement. s ≡ placement.superstep) → s ≡ m.superstep
home_superstep work honest m (Parts placement) s x is = is ∙ x.superstep
home_superstep work honest m (Whole state) s x is = absurd is
home_superstep work honest m Nothing s x is = absurd is

-- what is here is of this epoch or an earlier one
pub home_epoch : (work : Work) (honest : ℕ → Bool) (m : Machine) {J : _} (job_data : JobData J) (p epoch : ℕ) → HoldsData work honest m job_data → HasHome job_data p → epoch ≡ m.epoch → Runs job_data (λ placement. placement.epoch ≤ epoch)
home_epoch work honest m (Parts placement) p epoch x home same = subst (λ n. placement.epoch ≤ n) (sym same) x.epoch
home_epoch work honest m (Whole state) p epoch x home same = absurd home
home_epoch work honest m Nothing p epoch x home same = absurd home

pub book_taken_in : (work : Work) (honest : ℕ → Bool) (own : Work) (m : Machine) (ids : List ℕ) {J : _} (job_data after : JobData J) (w : ℕ) (task : Out) → w < length m.alive → is_running m.ending ≡ true → counts m w task ≡ true → Runs job_data (λ placement. after ≡ Parts (returned placement task.part task.epoch)) → IsBook work honest own m ids job_data → IsBook work honest own (finished (freed m w) task.part) ids after
book_taken_in work honest own m ids (Parts placement) after w task lt run h is b = book_taken work honest own m ids (Parts placement) after w task placement (rw b.held.sound.width lt) run h refl is b
book_taken_in work honest own m ids (Whole state) after w task lt run h is b = absurd is
book_taken_in work honest own m ids Nothing after w task lt run h is b = absurd is

pub book_handed_in : (work : Work) (honest : ℕ → Bool) (own : Work) (m : Machine) (ids : List ℕ) {J : _} (job_data after : JobData J) (w p : ℕ) → w < length m.alive → IsOpen m.done p → hand m w ≡ Some p → Runs job_data (λ placement. after ≡ Parts (moved placement p Gone)) → IsBook work honest own m ids job_data → IsBook work honest own (handed m w p) ids after
book_handed_in work honest own m ids (Parts placement) after w p lt open' e is b = book_handed work honest own m ids (Parts placement) after w p placement (rw b.held.sound.width lt) open' e refl is b
book_handed_in work honest own m ids (Whole state) after w p lt open' e is b = absurd is
book_handed_in work honest own m ids Nothing after w p lt open' e is b = absurd is

-- while the job runs
pub running_sound : (work : Work) (honest : ℕ → Bool) (m : Machine) {J : _} (job_data : JobData J) → HoldsData work honest m job_data → is_running m.ending ≡ true → IsSound m
running_sound work honest m job_data h run = (runs work honest m job_data h run).2.sound

pub book_opened : (work : Work) (honest : ℕ → Bool) (own : Work) (settings : Settings) (ids : List ℕ) {J : _} (job_data : JobData J) (quiet : Bool) (state : Standing) → own ≡ work → settings ≡ work.settings → 0 < work.settings.limit → AreIdsOf work ids → HasIdsOf work state → state.superstep ≡ 0 → (honest 0 ≡ true → IsFullStateAt work 0 state) → quiet ≡ is_settled state → IsFirst work.settings.parts quiet state job_data → IsBook work honest own (opened settings quiet) ids job_data
book_opened work honest own settings ids (Parts placement) quiet state job same some knows has none at is h = record {
  job = job;
  settings = same;
  knows = knows;
  past = omega arith;
  held = parts_home work (opened settings quiet) 0 state.superstep state.since placement h.1 (omega arith) (ap (λ e. is_running e) (running_first quiet settings.limit h.0 (rw same some))) none some (ap (λ (x : Settings). replicate x.parts false) same) (sound_opened settings quiet);
  reached = λ t. record { busy = λ meaning k lt. absurd (omega arith); saved = tt; stands = subst (λ (x : Settings). StandsAt work (ending_at quiet 0 x.limit) 0) (sym same) (ends_at work quiet 0 (subst (λ b. IsQuietAt work 0 b) (sym is) (settled_quiet work 0 state (at t))) (omega arith)) };
}
book_opened work honest own settings ids {J = J} (Whole whole) quiet state job same some knows has none at is h =
    subst (λ x. IsBook work honest own (opened settings quiet) ids {J = J} (Whole x)) (sym h.1) (record {
      job = job;
      settings = same;
      knows = knows;
      past = omega arith;
      held = record {
        answer = ap (λ b. has_answer (ending_at b 0 settings.limit)) h.0;
        superstep = none;
        ids = has;
        at = λ t. subst (λ n. IsFullStateAt work n state) (sym none) (at t);
        quiet = sym is ∙ sym (finished_at quiet 0 settings.limit);
      };
      reached = λ t. record { busy = λ meaning k lt. absurd (omega arith); saved = tt; stands = subst (λ (x : Settings). StandsAt work (ending_at quiet 0 x.limit) 0) (sym same) (ends_at work quiet 0 (subst (λ b. IsQuietAt work 0 b) (sym is) (settled_quiet work 0 state (at t))) (omega arith)) };
    })
book_opened work honest own settings ids Nothing quiet state job same some knows has none at is h = absurd h

-- after a loss, and a load
pub book_rolled : (work : Work) (honest : ℕ → Bool) (own : Work) (m m1 m2 : Machine) (ids : List ℕ) {J : _} (job_data after : JobData J) (alive : List Bool) (told : DeviceResult) (sliced : Bool) (parts : ℕ) → Lasts honest → length alive ≡ length m.alive → IsBook work honest own m ids job_data → is_running m.ending ≡ true → m1 ≡ begun_anew (joined (with_alive m alive)) → m2 ≡ slicing sliced (loading m1.saved told m1) → parts ≡ work.settings.parts → StandsBack parts m2.superstep m2 after → IsBook work honest own m2 ids after
book_rolled work honest own m m1 m2 ids job_data after alive told sliced parts lasts wide b run anew loaded many h =
    let f = fresh_slicing work honest (loading m.saved told (begun_anew (joined (with_alive m alive)))) sliced (fresh_loaded work honest own m ids job_data alive m.saved told lasts wide b run) in
    let is : m2 ≡ slicing sliced (loading m.saved told (begun_anew (joined (with_alive m alive)))) = loaded ∙ ap (λ (x : Machine). slicing sliced (loading x.saved told x)) anew in
    book_back work honest own m2 ids after b.job b.knows (subst (λ x. IsFresh work honest x) (sym is) f) (subst (λ n. StandsBack n m2.superstep m2 after) many h)

-- ---- a run that goes on

resumed_early : (work : Work) (settings : Settings) (s : ℕ) → settings ≡ work.settings → s < settings.limit → s < work.settings.limit
resumed_early work settings s same early = subst (λ (x : Settings). s < x.limit) same early

fresh_resumed : (work : Work) (honest : ℕ → Bool) (settings : Settings) (s : ℕ) → settings ≡ work.settings → s < settings.limit → (honest 0 ≡ true → WasBusy work (suc s)) → IsFresh work honest (resumed settings s)
fresh_resumed work honest settings s same early busy = record {
  settings = same;
  past = omega arith;
  early = λ r. resumed_early work settings s same early;
  sound = sound_resumed settings s;
  done = ap (λ (x : Settings). replicate x.parts false) same;
  reached = λ t. record {
    busy = λ meaning k lt. busy t meaning k (omega (arith, lt));
    saved = busy t;
    stands = (λ meaning. busy t meaning s (omega arith), resumed_early work settings s same early);
  };
}

fresh_begun_first : (work : Work) (honest : ℕ → Bool) (settings : Settings) (s : ℕ) → settings ≡ work.settings → s < settings.limit → (honest 0 ≡ true → WasBusy work (suc s)) → IsFresh work honest (restarted (resumed settings s))
fresh_begun_first work honest settings s same early busy = record {
  settings = same;
  past = omega arith;
  early = λ r. let below = resumed_early work settings s same early in omega (arith, below);
  sound = sound_restarted settings s;
  done = ap (λ (x : Settings). replicate x.parts false) same;
  reached = λ t. record {
    busy = λ meaning k lt. absurd (omega arith);
    saved = tt;
    stands = (λ meaning. busy t meaning 0 (omega arith), let below = resumed_early work settings s same early in omega (arith, below));
  };
}

fresh_begun : (work : Work) (honest : ℕ → Bool) (settings : Settings) (s : ℕ) (told : DeviceResult) → settings ≡ work.settings → s < settings.limit → (honest 0 ≡ true → WasBusy work (suc s)) → IsFresh work honest (loading (Some s) told (resumed settings s))
fresh_begun work honest settings s Good same early busy = fresh_resumed work honest settings s same early busy
fresh_begun work honest settings s Failed same early busy = fresh_begun_first work honest settings s same early busy
fresh_begun work honest settings s NoMemory same early busy = fresh_unloaded work honest (resumed settings s) (fresh_resumed work honest settings s same early busy)

-- whatever the load told
pub book_begun : (work : Work) (honest : ℕ → Bool) (own : Work) (settings : Settings) (s : ℕ) (m1 m2 : Machine) (ids : List ℕ) {J : _} (job_data : JobData J) (told : DeviceResult) (sliced : Bool) (parts : ℕ) → own ≡ work → AreIdsOf work ids → settings ≡ work.settings → s < settings.limit → (honest 0 ≡ true → WasBusy work (suc s)) → m1 ≡ resumed settings s → m2 ≡ slicing sliced (loading m1.saved told m1) → parts ≡ work.settings.parts → StandsBack parts m2.superstep m2 job_data → IsBook work honest own m2 ids job_data
book_begun work honest own settings s m1 m2 ids job_data told sliced parts job knows same early busy first loaded many h =
    let f = fresh_slicing work honest (loading (Some s) told (resumed settings s)) sliced (fresh_begun work honest settings s told same early busy) in
    let is : m2 ≡ slicing sliced (loading (Some s) told (resumed settings s)) = loaded ∙ ap (λ (x : Machine). slicing sliced (loading x.saved told x)) first in
    book_back work honest own m2 ids job_data job knows (subst (λ x. IsFresh work honest x) (sym is) f) (subst (λ n. StandsBack n m2.superstep m2 job_data) many h)
