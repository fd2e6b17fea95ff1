-- Each task out of this epoch is an open part of the worker's own.
use Rattle.std.proofs.Common.{◌≡◌, ◌≢◌, ℕ, zero, suc, ◌+◌, ◌<◌, ◌%◌, List, [], ◌∷◌, length, take, get_or, Bool, true, false, ◌&&◌, Some, None, Option, refl, sym, ap, ◌∙◌, subst, arith, get_or-set_other, get_or-set_same, cond}
use Rattle.std.proofs.Common.{replicate}
use Rattle.std.proofs.Math.ListN.{length-set, set}
use Rattle.std.proofs.lemmas.List.{length-replicate}
use Rattle.job_state.specs.declared.settings.Settings.{Settings}
use Rattle.control.specs.declared.job_status.JobStatus.{JobStatus}
use Rattle.std.proofs.lemmas.Grind.{common_steps}
use Rattle.std.specs.Prelude.{◌==◌, not, ◌⊎◌}
use Rattle.std.proofs.Common.{inl, inr}
use Rattle.control.specs.declared.control.Out.{Out}
use Rattle.control.specs.declared.answer.Answer.TheVariants.{Stale, Taken}
use Rattle.control.specs.Machine.{Machine, all_set, closed, count_set, counts, finished, freed, hand, handed, is_alive, is_free, is_out, is_running, is_that, least, opened, restarted, resumed, task_of}
use Rattle.control.specs.Events.{Heard, done_step, shut, stale_done}
use Rattle.control.specs.inside.Sound.{IsOpen, IsSound, IsSoundOut}

abbrev with_epoch : Out → ℕ → Out
with_epoch p x = record { epoch = x; superstep = p.superstep; part = p.part }

abbrev with_superstep : Out → Out → ℕ → Out
with_superstep o p x = record { epoch = o.epoch; superstep = x; part = p.part }

abbrev with_part : Out → ℕ → Out
with_part o x = record { epoch = o.epoch; superstep = o.superstep; part = x }

pub is_that_is : (p : Option Out) (o : Out) → is_that p o ≡ true → p ≡ Some o
is_that_is None o h = cc
is_that_is (Some p) o h = let e : p.epoch ≡ o.epoch = grind arith in let s : p.superstep ≡ o.superstep = grind arith in let q : p.part ≡ o.part = grind arith in
    ap (λ x. Some (with_epoch p x)) e ∙ (ap (λ x. Some (with_superstep o p x)) s ∙ ap (λ x. Some (with_part o x)) q)

pub both : (a b : Bool) → (a && b) ≡ true → (a ≡ true) × (b ≡ true)
both true b h = (refl, h)
both false b h = absurd (cc)

pub counts_is : (m : Machine) (w : ℕ) (o : Out) → counts m w o ≡ true → (is_alive m w ≡ true) × ((get_or m.out w None ≡ Some o) × (o.epoch ≡ m.epoch))
counts_is m w o h =
    let a = both (is_alive m w) _ h in
    let b = both (is_out m w o) _ a.1 in
    (a.0, (is_that_is (get_or m.out w None) o b.0, grind (arith, b.1)))

pub same_or_not : (a b : ℕ) → (a ≡ b) ⊎ (a ≢ b)
same_or_not a b = grind arith

pub sound_freed : (m : Machine) (w : ℕ) → w < length m.out → IsSound m → IsSound (freed m w)
sound_freed m w lt s = record {
  width = length-set m.out w None ∙ s.width;
  outs = λ v o vlt is.
      elim (same_or_not v w) [
        | inl e ↦ (let x : None ≡ Some o = sym (get_or-set_same m.out w None None lt) ∙ subst (λ k. get_or (set m.out w None) k None ≡ Some o) e is in absurd (cc))
        | inr ne ↦ (let x = s.outs v o (subst (λ n. v < n) (length-set m.out w None) vlt) (sym (get_or-set_other m.out w v None None ne) ∙ is) in record { past = x.past; superstep = x.superstep; part = x.part; alive = x.alive; own = x.own })
      ];
}

-- the alive workers before a later one are more
pub before_lt : (alive : List Bool) (v w : ℕ) → get_or alive v false ≡ true → v < w → count_set (take v alive) < count_set (take w alive)
before_lt [] v w h lt = absurd (cc)
before_lt (true ∷ xs) zero zero h lt = absurd (omega arith)
before_lt (true ∷ xs) zero (suc w) h lt = let e : count_set (take (suc w) (true ∷ xs)) ≡ suc (count_set (take w xs)) = grind (arith, common_steps) in omega (arith, e)
before_lt (false ∷ xs) zero w h lt = absurd (cc)
before_lt (a ∷ xs) (suc v) zero h lt = absurd (omega arith)
before_lt (true ∷ xs) (suc v) (suc w) h lt = let r = before_lt xs v w h (let l : v < w = omega arith in l) in grind (arith, common_steps, r)
before_lt (false ∷ xs) (suc v) (suc w) h lt = before_lt xs v w h (let l : v < w = omega arith in l)

-- a result that counts is of an open part
pub counted_part : (m : Machine) (w : ℕ) (o : Out) → IsSound m → w < length m.out → counts m w o ≡ true → (o.superstep ≡ m.superstep) × IsOpen m.done o.part
counted_part m w o s lt h =
    let k = counts_is m w o h in
    let x = s.outs w o lt k.1.0 in
    (x.superstep k.1.1, x.part k.1.1)

pub stale_is : (heard : Heard) (m : Machine) (w : ℕ) (o : Out) → counts m w o ≡ false → done_step heard m w o ≡ (stale_done m w o, Stale)
stale_is heard m w o e = rw e refl

pub stale_out : (m : Machine) (w : ℕ) (o : Out) (b : Bool) → is_out m w o ≡ b → stale_done m w o ≡ cond b (freed m w) m
stale_out m w o b e = rw e refl

pub taken_is : (heard : Heard) (m : Machine) (w : ℕ) (o : Out) → counts m w o ≡ true → all_set (finished (freed m w) o.part).done ≡ false → done_step heard m w o ≡ (finished (freed m w) o.part, Taken)
taken_is heard m w o e f = rw (e, f) refl

pub shut_is : (heard : Heard) (m : Machine) (w : ℕ) (o : Out) → counts m w o ≡ true → all_set (finished (freed m w) o.part).done ≡ true → done_step heard m w o ≡ shut heard (finished (freed m w) o.part)
shut_is heard m w o e f = rw (e, f) refl

pub apart : (m : Machine) (v w p q : ℕ) → v ≢ w → is_alive m v ≡ true → is_alive m w ≡ true → q % count_set m.alive ≡ count_set (take v m.alive) → p % count_set m.alive ≡ count_set (take w m.alive) → q ≡ p → ⊥
apart m v w p q ne av aw ov ow e =
    let same : count_set (take v m.alive) ≡ count_set (take w m.alive) = sym ov ∙ ap (λ n. n % count_set m.alive) e ∙ ow in
    let either : (v < w) ⊎ (w < v) = grind arith in
    elim either [
      | inl lt ↦ (let x = before_lt m.alive v w av lt in omega (arith, x, same))
      | inr lt ↦ (let x = before_lt m.alive w v aw lt in omega (arith, x, same))
    ]

pub sound_taken : (m : Machine) (w : ℕ) (o : Out) → IsSound m → w < length m.out → counts m w o ≡ true → IsSound (finished (freed m w) o.part)
sound_taken m w o s lt h =
    let f = sound_freed m w lt s in
    let k = counts_is m w o h in
    let x = s.outs w o lt k.1.0 in
    record {
      width = f.width;
      outs = λ v q vlt is.
          let y = f.outs v q vlt is in
          let ne : v ≢ w = λ e. let z : None ≡ Some q = sym (get_or-set_same m.out w None None lt) ∙ subst (λ k. get_or (set m.out w None) k None ≡ Some q) e is in absurd (cc) in
          record {
            past = y.past;
            superstep = y.superstep;
            alive = y.alive;
            own = y.own;
            part = λ e.
                let other : q.part ≢ o.part = λ same. apart m v w o.part q.part ne (y.alive e) k.0 (y.own e) (x.own k.1.1) same in
                (subst (λ n. q.part < n) (sym (length-set m.done o.part true)) (y.part e).0, get_or-set_other m.done o.part q.part true true other ∙ (y.part e).1);
          };
    }

least_own_at : (k place base p : ℕ) (ds : List Bool) (d t : Bool) → t ≡ ((base % k == place) && not d) → cond t (Some base) (least k place (suc base) ds) ≡ Some p → (least k place (suc base) ds ≡ Some p → p % k ≡ place) → p % k ≡ place
least_own_at k place base p ds d true t e rest = let b = both (base % k == place) (not d) (sym t) in let same : base ≡ p = cc in let q : base % k ≡ place = grind (arith, b.0) in subst (λ n. n % k ≡ place) same q
least_own_at k place base p ds d false t e rest = rest e

least_own : (k place base p : ℕ) (ds : List Bool) → least k place base ds ≡ Some p → p % k ≡ place
least_own k place base p [] e = absurd (cc)
least_own k place base p (d ∷ ds) e = least_own_at k place base p ds d ((base % k == place) && not d) refl e (least_own k place (suc base) p ds)

pub cond_is : (b : Bool) (x : Option ℕ) (p : ℕ) → cond b x None ≡ Some p → (b ≡ true) × (x ≡ Some p)
cond_is true x p e = (refl, e)
cond_is false x p e = absurd (cc)

pub hand_is : (m : Machine) (w p : ℕ) → hand m w ≡ Some p → (is_running m.ending ≡ true) × ((is_alive m w ≡ true) × (p % count_set m.alive ≡ count_set (take w m.alive)))
hand_is m w p e =
    let c = cond_is (is_running m.ending && (is_alive m w && is_free (get_or m.out w None))) (least (count_set m.alive) (count_set (take w m.alive)) 0 m.done) p e in
    let a = both (is_running m.ending) _ c.0 in
    let b = both (is_alive m w) _ a.1 in
    (a.0, (b.0, least_own (count_set m.alive) (count_set (take w m.alive)) 0 p m.done c.1))

pub sound_handed : (m : Machine) (w p : ℕ) → IsSound m → w < length m.out → IsOpen m.done p → hand m w ≡ Some p → IsSound (handed m w p)
sound_handed m w p s lt open' e =
    let h = hand_is m w p e in
    record {
      width = length-set m.out w (Some (task_of m p)) ∙ s.width;
      outs = λ v q vlt is.
          elim (same_or_not v w) [
            | inl same ↦ (let z : Some (task_of m p) ≡ Some q = sym (get_or-set_same m.out w (Some (task_of m p)) None lt) ∙ subst (λ k. get_or (set m.out w (Some (task_of m p))) k None ≡ Some q) same is in
                let y : task_of m p ≡ q = cc in
                subst (λ r. IsSoundOut (handed m w p) v r) y (record { past = omega arith; superstep = λ t. refl; part = λ t. open'; alive = λ t. subst (λ k. is_alive m k ≡ true) (sym same) h.1.0; own = λ t. subst (λ k. p % count_set m.alive ≡ count_set (take k m.alive)) (sym same) h.1.1 }))
            | inr ne ↦ (let x = s.outs v q (subst (λ n. v < n) (length-set m.out w (Some (task_of m p))) vlt) (sym (get_or-set_other m.out w v (Some (task_of m p)) None ne) ∙ is) in record { past = x.past; superstep = x.superstep; part = x.part; alive = x.alive; own = x.own })
          ];
    }

-- the numbers that no task hangs on
abbrev pub with_rest : Machine → List Bool → List ℕ → List ℕ → ℕ → ℕ → Machine
with_rest m waiting age spent missed restarts = record m { waiting = waiting; age = age; spent = spent; missed = missed; restarts = restarts }

pub sound_rest : (m : Machine) (waiting : List Bool) (age spent : List ℕ) (missed restarts : ℕ) → IsSound m → IsSound (with_rest m waiting age spent missed restarts)
sound_rest m waiting age spent missed restarts s = record {
  width = s.width;
  outs = λ w task lt is. let x = s.outs w task lt is in record { past = x.past; superstep = x.superstep; part = x.part; alive = x.alive; own = x.own };
}

-- how it ends, and what was saved
pub sound_ending : (m : Machine) (ending : JobStatus) (saved : Option ℕ) → IsSound m → IsSound (record m { ending = ending; saved = saved })
sound_ending m ending saved s = record {
  width = s.width;
  outs = λ w task lt is. let x = s.outs w task lt is in record { past = x.past; superstep = x.superstep; part = x.part; alive = x.alive; own = x.own };
}

-- each flag is set
pub flag_set : (done : List Bool) (k : ℕ) (d : Bool) → all_set done ≡ true → k < length done → get_or done k d ≡ true
flag_set [] k d h lt = absurd (omega arith)
flag_set (true ∷ ds) zero d h lt = refl
flag_set (true ∷ ds) (suc k) d h lt = flag_set ds k d h (let l : k < length ds = omega arith in l)
flag_set (false ∷ ds) k d h lt = absurd (cc)

none_open : (done : List Bool) (p : ℕ) → all_set done ≡ true → IsOpen done p → ⊥
none_open done p h open' = let e : true ≡ false = sym (flag_set done p true h open'.0) ∙ open'.1 in absurd (cc)

-- no worker's task is of the next superstep
pub sound_closed : (m : Machine) (quiet : Bool) → all_set m.done ≡ true → IsSound m → IsSound (closed quiet m)
sound_closed m quiet h s = record {
  width = s.width;
  outs = λ w task lt is.
      let x = s.outs w task lt is in
      let never = λ (e : task.epoch ≡ m.epoch). none_open m.done task.part h (x.part e) in
      record { past = x.past; superstep = λ e. absurd (never e); part = λ e. absurd (never e); alive = λ e. absurd (never e); own = λ e. absurd (never e) };
}

-- in a new epoch, whoever is alive now, no task out is of it
pub sound_anew : (m m' : Machine) → IsSound m → m'.out ≡ m.out → length m'.alive ≡ length m.alive → m'.epoch ≡ m.epoch + 1 → IsSound m'
sound_anew m m' s out' wide next = record {
  width = ap length out' ∙ s.width ∙ sym wide;
  outs = λ w task lt is.
      let x = s.outs w task (subst (λ os. w < length os) out' lt) (subst (λ os. get_or os w None ≡ Some task) out' is) in
      let old = x.past in
      let never : task.epoch ≡ m'.epoch → ⊥ = λ e. omega (arith, old, next, e) in
      record { past = omega (arith, old, next); superstep = λ e. absurd (never e); part = λ e. absurd (never e); alive = λ e. absurd (never e); own = λ e. absurd (never e) };
}

none_out : (n w : ℕ) (task : Out) → get_or (replicate n None) w None ≡ Some task → ⊥
none_out zero w task e = cc
none_out (suc n) zero task e = cc
none_out (suc n) (suc w) task e = none_out n w task e

pub sound_opened : (settings : Settings) (quiet : Bool) → IsSound (opened settings quiet)
sound_opened settings quiet = record {
  width = length-replicate settings.workers None ∙ sym (length-replicate settings.workers true);
  outs = λ w task lt e. absurd (none_out settings.workers w task e);
}

pub sound_resumed : (settings : Settings) (s : ℕ) → IsSound (resumed settings s)
sound_resumed settings s = record {
  width = length-replicate settings.workers None ∙ sym (length-replicate settings.workers true);
  outs = λ w task lt e. absurd (none_out settings.workers w task e);
}

pub sound_restarted : (settings : Settings) (s : ℕ) → IsSound (restarted (resumed settings s))
sound_restarted settings s = record {
  width = length-replicate settings.workers None ∙ sym (length-replicate settings.workers true);
  outs = λ w task lt e. absurd (none_out settings.workers w task e);
}

-- ---- workers without a task of this epoch

abbrev pub HasNone : Machine → ℕ → Type 0
HasNone m w = (task : Out) → get_or m.out w None ≡ Some task → task.epoch ≡ m.epoch → ⊥

-- a stale result is of no task of this epoch
pub stale_none : (m : Machine) (w : ℕ) (o : Out) → IsSound m → w < length m.out → is_out m w o ≡ true → counts m w o ≡ false → HasNone m w
stale_none m w o s lt out' no' task e same =
    let x = s.outs w task lt e in
    let is : get_or m.out w None ≡ Some o = is_that_is (get_or m.out w None) o out' in
    let t : Some task ≡ Some o = sym e ∙ is in
    let t' : task ≡ o = cc in
    let ep : o.epoch ≡ m.epoch = sym (ap (λ y. y.epoch) t') ∙ same in
    let a = x.alive same in
    let test : (o.epoch == m.epoch) ≡ true = grind (arith, ep) in
    let yes' : counts m w o ≡ true = rw (a, out', test) refl in
    let c : true ≡ false = sym yes' ∙ no' in absurd (cc)

-- nor has a worker that is not alive
pub dead_none : (m : Machine) (w : ℕ) → IsSound m → w < length m.out → is_alive m w ≡ false → HasNone m w
dead_none m w s lt dead task e same = let a = (s.outs w task lt e).alive same in let c : true ≡ false = sym a ∙ dead in absurd (cc)

free_is : (x : Option Out) → is_free x ≡ true → x ≡ None
free_is None h = refl
free_is (Some o) h = absurd (cc)

-- a worker that is handed a part has no task
pub hand_free : (m : Machine) (w p : ℕ) → hand m w ≡ Some p → get_or m.out w None ≡ None
hand_free m w p e =
    let c = cond_is (is_running m.ending && (is_alive m w && is_free (get_or m.out w None))) (least (count_set m.alive) (count_set (take w m.alive)) 0 m.done) p e in
    let a = both (is_running m.ending) _ c.0 in
    let b = both (is_alive m w) _ a.1 in
    free_is (get_or m.out w None) b.1
