-- What a Keep has of a book, from event to event.
use Rattle.std.proofs.Common.{◌≡◌, ℕ, suc, ◌+◌, ◌<◌, List, Bool, true, false, cond, Option, Some, None, refl, sym, ap, ◌∙◌, subst, arith, inl, inr}
use Rattle.std.specs.Prelude.{◌⊎◌, ◌&&◌, not, nat_lt}
use Rattle.checkpoint.specs.Checkpoint.{checkpoint_bytes}
use Rattle.checkpoint.specs.Keep.{HasFailed, IsKeptOrNone}
use Rattle.job_state.specs.declared.fault.JobFault.TheVariants.{OutOfMemory}
use Rattle.job_state.specs.declared.fault.Place.TheVariants.{Slice}
use Rattle.superstep.specs.Job.{Work}
use Rattle.job_state.specs.State.{Standing}
use Rattle.superstep.specs.State.{HasIdsOf}
use Rattle.control.specs.declared.job_status.DeviceResult.{DeviceResult}
use Rattle.control.specs.declared.job_status.DeviceResult.TheVariants.{Failed, Good, NoMemory}
use Rattle.control.specs.Machine.{Machine, count_set, ended_by, is_running, is_saved_now, joined, saved_or_first, welcomed}
use Rattle.control.specs.Events.{after_load, after_save, loading, saving, slicing}
use Rattle.book.specs.Saving.{IsFullStateAt, IsLoadResult, IsSavedOrLeft, KeepsFor, LoadsNoMore, MayLoadAfter, MayLoadMade, MayLoadOther}
use Rattle.book.specs.inside.DeviceResults.{IsSaveResult}

pub keeps_same : (work : Work) (trusted : ℕ → Bool) (honest : Bool) (kept : Option ℕ) (may_load : List ℕ → Type 0) (m m' : Machine) → m'.saved ≡ m.saved → KeepsFor work trusted honest kept may_load m → KeepsFor work trusted honest kept may_load m'
keeps_same work trusted honest kept may_load m m' e k = record { trusts = k.trusts; saved = λ s is. k.saved s (sym e ∙ is); bytes = λ t s is. k.bytes t s (sym e ∙ is) }

-- a Keep that is trusted less
pub keeps_less : (work : Work) (trusted : ℕ → Bool) (sure honest : Bool) (kept : Option ℕ) (may_load : List ℕ → Type 0) (m : Machine) → (sure ≡ true → trusted 1 ≡ true) → KeepsFor work trusted honest kept may_load m → KeepsFor work (λ epoch. sure) honest kept may_load m
keeps_less work trusted sure honest kept may_load m less k = record { trusts = λ t. k.trusts (less t); saved = k.saved; bytes = λ t. k.bytes (less t) }

-- ---- what slices and joining leave

slicing_saved_if : (m : Machine) (c : Bool) → (cond c (ended_by (OutOfMemory Slice) m) m).saved ≡ m.saved
slicing_saved_if m true = refl
slicing_saved_if m false = refl

slicing_missed_if : (m : Machine) (c : Bool) → (cond c (ended_by (OutOfMemory Slice) m) m).missed ≡ m.missed
slicing_missed_if m true = refl
slicing_missed_if m false = refl

slicing_restarts_if : (m : Machine) (c : Bool) → (cond c (ended_by (OutOfMemory Slice) m) m).restarts ≡ m.restarts
slicing_restarts_if m true = refl
slicing_restarts_if m false = refl

pub slicing_superstep_if : (m : Machine) (c : Bool) → (cond c (ended_by (OutOfMemory Slice) m) m).superstep ≡ m.superstep
slicing_superstep_if m true = refl
slicing_superstep_if m false = refl

-- the numbers of which a Keep knows
pub record AreSame (m m' : Machine) : Type 0 where
  pub saved : m'.saved ≡ m.saved
  pub missed : m'.missed ≡ m.missed
  pub restarts : m'.restarts ≡ m.restarts
  pub superstep : m'.superstep ≡ m.superstep

pub slicing_same : (m : Machine) (sliced : Bool) → AreSame m (slicing sliced m)
slicing_same m sliced =
    let c = is_running m.ending && not sliced in
    record { saved = slicing_saved_if m c; missed = slicing_missed_if m c; restarts = slicing_restarts_if m c; superstep = slicing_superstep_if m c }

welcomed_same_if : (m : Machine) (c : Bool) → AreSame m (cond c (record (joined m) { epoch = m.epoch + 1 }) m)
welcomed_same_if m true = record { saved = refl; missed = refl; restarts = refl; superstep = refl }
welcomed_same_if m false = record { saved = refl; missed = refl; restarts = refl; superstep = refl }

pub welcomed_same : (m : Machine) → AreSame m (welcomed m)
welcomed_same m = welcomed_same_if m (is_running m.ending && nat_lt 0 (count_set m.waiting))

pub same_both : (a b c : Machine) → AreSame a b → AreSame b c → AreSame a c
same_both a b c x y = record { saved = y.saved ∙ x.saved; missed = y.missed ∙ x.missed; restarts = y.restarts ∙ x.restarts; superstep = y.superstep ∙ x.superstep }

-- ---- saves

-- a save that was not good leaves what the book counts on
keeps_left : (work : Work) (trusted : ℕ → Bool) (m m' : Machine) (state : Standing) (h h' : Bool) (k k' : Option ℕ) (ml ml' : List ℕ → Type 0) (f f' : ℕ) (told : DeviceResult) → (told ≡ Good → ⊥) → saved_or_first m.saved < state.superstep → m'.saved ≡ m.saved → IsSaveResult state h h' k k' ml ml' f f' told → KeepsFor work trusted h k ml m → KeepsFor work trusted h' k' ml' m'
keeps_left work trusted m m' state h h' k k' ml ml' f f' told bad past same s old = record {
  trusts = λ t. s.honest_is ∙ old.trusts t;
  saved = λ n e.
      let e' = sym same ∙ e in
      elim (s.left bad) [
        | inl x ↦ x ∙ old.saved n e'
        | inr x ↦ (let y : Some n ≡ Some state.superstep = sym (old.saved n e') ∙ x.0 in let z : n ≡ state.superstep = cc in let w : saved_or_first m.saved ≡ n = ap saved_or_first e' in absurd (omega (arith, past, z, w)))
      ];
  bytes = λ t n e b may. old.bytes t n (sym same ∙ e) b (s.left_bytes bad b may);
}

some_is : (a b : ℕ) → Some a ≡ Some b → a ≡ b
some_is a b e = cc

keeps_after : (work : Work) (trusted : ℕ → Bool) (m : Machine) (state : Standing) (h h' : Bool) (k k' : Option ℕ) (ml ml' : List ℕ → Type 0) (f f' : ℕ) (told : DeviceResult) → (trusted 1 ≡ true → IsFullStateAt work state.superstep state) → HasIdsOf work state → state.superstep ≡ m.superstep → saved_or_first m.saved < state.superstep → IsSaveResult state h h' k k' ml ml' f f' told → KeepsFor work trusted h k ml m → KeepsFor work trusted h' k' ml' (after_save told m)
keeps_after work trusted m state h h' k k' ml ml' f f' Good at has same past s old = record {
  trusts = λ t. s.honest_is ∙ old.trusts t;
  saved = λ n e. s.saved_is refl ∙ ap Some same ∙ e;
  bytes = λ t n e b may other is.
      let z : state.superstep ≡ n = same ∙ some_is m.superstep n e in
      let are = s.bytes_are refl (old.trusts t) b may other is in
      record { state = state; written = are.0; spelled = are.1; fits = record { superstep = z; ids = has }; full = subst (λ i. IsFullStateAt work i state) z (at t) };
}
keeps_after work trusted m state h h' k k' ml ml' f f' Failed at has same past s old = keeps_left work trusted m (after_save Failed m) state h h' k k' ml ml' f f' Failed (λ e. cc) past refl s old
keeps_after work trusted m state h h' k k' ml ml' f f' NoMemory at has same past s old = keeps_left work trusted m (after_save NoMemory m) state h h' k k' ml ml' f f' NoMemory (λ e. cc) past refl s old

-- the last good save is of this superstep, or it was left
abbrev IsSavedNow : Machine → Option ℕ → Option ℕ → Type 0
IsSavedNow m kept kept' = ((m.saved ≡ Some m.superstep) × (kept' ≡ Some m.superstep)) ⊎ IsKeptOrNone m.superstep kept kept'

-- it may load no more than before, or this superstep's state was saved, and it may load that
abbrev MayLoadNow : Work → Machine → Machine → (ml ml' : List ℕ → Type 0) → Type 0
MayLoadNow work m m' ml ml' =
    (LoadsNoMore ml ml' × (m'.saved ≡ m.saved)) ⊎ ((m'.saved ≡ Some m'.superstep) × MayLoadMade work m'.superstep ml')

made : (work : Work) (state : Standing) (s : ℕ) (h h' : Bool) (k k' : Option ℕ) (ml ml' : List ℕ → Type 0) (f f' : ℕ) → HasIdsOf work state → state.superstep ≡ s → IsSaveResult state h h' k k' ml ml' f f' Good → MayLoadMade work s ml'
made work state s h h' k k' ml ml' f f' has same t = record {
  bytes = checkpoint_bytes state;
  may = (t.held refl).0;
  made = record { state = state; written = refl; spelled = (t.held refl).1; fits = record { superstep = same; ids = has } };
}

-- what a closed superstep leaves, where m has come, and c says whether a save is due
pub record Saves (work : Work) (trusted : ℕ → Bool) (m m' : Machine) (h h' : Bool) (k k' : Option ℕ) (ml ml' : List ℕ → Type 0) (f f' : ℕ) : Type 0 where
  pub keeps : KeepsFor work trusted h' k' ml' m'
  pub missed : (m'.missed ≡ m.missed) ⊎ HasFailed f f'
  pub restarts : m'.restarts ≡ m.restarts
  pub superstep : m'.superstep ≡ m.superstep
  pub left : IsSavedNow m' k k'
  pub loads : MayLoadNow work m m' ml ml'

saves_told : (work : Work) (trusted : ℕ → Bool) (m : Machine) (state : Standing) (h h' : Bool) (k k' : Option ℕ) (ml ml' : List ℕ → Type 0) (f f' : ℕ) (told : DeviceResult) → (trusted 1 ≡ true → IsFullStateAt work state.superstep state) → HasIdsOf work state → state.superstep ≡ m.superstep → saved_or_first m.saved < state.superstep → IsSaveResult state h h' k k' ml ml' f f' told → KeepsFor work trusted h k ml m → Saves work trusted m (after_save told m) h h' k k' ml ml' f f'
saves_told work trusted m state h h' k k' ml ml' f f' Good at has same past s old = record {
  keeps = keeps_after work trusted m state h h' k k' ml ml' f f' Good at has same past s old;
  missed = inl refl;
  restarts = refl;
  superstep = refl;
  left = inl (refl, s.saved_is refl ∙ ap Some same);
  loads = inr (refl, made work state m.superstep h h' k k' ml ml' f f' has same s);
}
saves_told work trusted m state h h' k k' ml ml' f f' Failed at has same past s old = record {
  keeps = keeps_after work trusted m state h h' k k' ml ml' f f' Failed at has same past s old;
  missed = inr (s.cause refl);
  restarts = refl;
  superstep = refl;
  left = inr (subst (λ n. IsKeptOrNone n k k') same (s.left (λ e. cc)));
  loads = inl (s.left_bytes (λ e. cc), refl);
}
saves_told work trusted m state h h' k k' ml ml' f f' NoMemory at has same past s old = record {
  keeps = keeps_after work trusted m state h h' k k' ml ml' f f' NoMemory at has same past s old;
  missed = inl refl;
  restarts = refl;
  superstep = refl;
  left = inr (subst (λ n. IsKeptOrNone n k k') same (s.left (λ e. cc)));
  loads = inl (s.left_bytes (λ e. cc), refl);
}

saves_if : (work : Work) (trusted : ℕ → Bool) (m : Machine) (state : Standing) (h h' : Bool) (k k' : Option ℕ) (ml ml' : List ℕ → Type 0) (f f' : ℕ) (told : DeviceResult) (c : Bool) → (trusted 1 ≡ true → IsFullStateAt work state.superstep state) → HasIdsOf work state → state.superstep ≡ m.superstep → saved_or_first m.saved < state.superstep → (c ≡ true → IsSaveResult state h h' k k' ml ml' f f' told) → (c ≡ false → KeepsFor work trusted h' k' ml' m × (k' ≡ k) × LoadsNoMore ml ml') → KeepsFor work trusted h k ml m → Saves work trusted m (cond c (after_save told m) m) h h' k k' ml ml' f f'
saves_if work trusted m state h h' k k' ml ml' f f' told true at has same past s other old = saves_told work trusted m state h h' k k' ml ml' f f' told at has same past (s refl) old
saves_if work trusted m state h h' k k' ml ml' f f' told false at has same past s other old = record { keeps = (other refl).0; missed = inl refl; restarts = refl; superstep = refl; left = inr (inl (other refl).1); loads = inl ((other refl).2, refl) }

pub saves : (work : Work) (trusted : ℕ → Bool) (m : Machine) (state : Standing) (h h' : Bool) (k k' : Option ℕ) (ml ml' : List ℕ → Type 0) (f f' : ℕ) (told : DeviceResult) → (trusted 1 ≡ true → IsFullStateAt work state.superstep state) → HasIdsOf work state → state.superstep ≡ m.superstep → saved_or_first m.saved < state.superstep → (is_saved_now m ≡ true → IsSaveResult state h h' k k' ml ml' f f' told) → (is_saved_now m ≡ false → KeepsFor work trusted h' k' ml' m × (k' ≡ k) × LoadsNoMore ml ml') → KeepsFor work trusted h k ml m → Saves work trusted m (saving told m) h h' k k' ml ml' f f'
saves work trusted m state h h' k k' ml ml' f f' told at has same past s other old = saves_if work trusted m state h h' k k' ml ml' f f' told (is_saved_now m) at has same past s other old

-- numbers that a Keep does not know
pub saves_same : (work : Work) (trusted : ℕ → Bool) (m m' m'' : Machine) (h h' : Bool) (k k' : Option ℕ) (ml ml' : List ℕ → Type 0) (f f' : ℕ) → Saves work trusted m m' h h' k k' ml ml' f f' → AreSame m' m'' → Saves work trusted m m'' h h' k k' ml ml' f f'
saves_same work trusted m m' m'' h h' k k' ml ml' f f' s e = record {
  keeps = keeps_same work trusted h' k' ml' m' m'' e.saved s.keeps;
  missed = elim s.missed [ inl x ↦ inl (e.missed ∙ x) | inr x ↦ inr x ];
  restarts = e.restarts ∙ s.restarts;
  superstep = e.superstep ∙ s.superstep;
  left = elim s.left [
    | inl x ↦ inl (e.saved ∙ x.0 ∙ ap Some (sym e.superstep), x.1 ∙ ap Some (sym e.superstep))
    | inr x ↦ inr (subst (λ n. IsKeptOrNone n k k') (sym e.superstep) x)
  ];
  loads = elim s.loads [
    | inl x ↦ inl (x.0, e.saved ∙ x.1)
    | inr x ↦ inr (e.saved ∙ x.0 ∙ ap Some (sym e.superstep), subst (λ n. MayLoadMade work n ml') (sym e.superstep) x.1)
  ];
}

-- so it is after the superstep before it
pub saves_left : (work : Work) (trusted : ℕ → Bool) (before m m' : Machine) (h h' : Bool) (k k' : Option ℕ) (ml ml' : List ℕ → Type 0) (f f' : ℕ) → m'.superstep ≡ suc before.superstep → Saves work trusted m m' h h' k k' ml ml' f f' → IsSavedOrLeft before m' k k'
saves_left work trusted before m m' h h' k k' ml ml' f f' next s =
    elim s.left [
      | inl x ↦ inr (next, inl x)
      | inr x ↦ elim x [ inl e ↦ inl e | inr y ↦ inr (next, inr y) ]
    ]

pub saves_loads : (work : Work) (trusted : ℕ → Bool) (before m m' : Machine) (h h' : Bool) (k k' : Option ℕ) (ml ml' : List ℕ → Type 0) (f f' : ℕ) → m'.superstep ≡ suc before.superstep → m.saved ≡ before.saved → Saves work trusted m m' h h' k k' ml ml' f f' → MayLoadAfter work before m' ml ml'
saves_loads work trusted before m m' h h' k k' ml ml' f f' next same s =
    elim s.loads [
      | inl x ↦ inl (x.0, inl (x.1 ∙ same))
      | inr x ↦ inr (next, x.0, x.1)
    ]

-- ---- loads

-- it may load no more than before, and what the book counts as saved is what it was, or nothing
abbrev MayLoadStill : Machine → Machine → (ml ml' : List ℕ → Type 0) → Type 0
MayLoadStill m m' ml ml' = LoadsNoMore ml ml' × ((m'.saved ≡ m.saved) ⊎ (m'.saved ≡ None))

loads_keeps : (work : Work) (trusted : ℕ → Bool) (m m' : Machine) (h h' : Bool) (k k' : Option ℕ) (ml ml' : List ℕ → Type 0) (f f' : ℕ) (asked : Option ℕ) (told : DeviceResult) → m'.saved ≡ m.saved → IsLoadResult work h h' k k' ml ml' f f' asked told → KeepsFor work trusted h k ml m → KeepsFor work trusted h' k' ml' m'
loads_keeps work trusted m m' h h' k k' ml ml' f f' asked told same l old = record {
  trusts = λ t. l.honest_is ∙ old.trusts t;
  saved = λ s e. l.saved_is ∙ old.saved s (sym same ∙ e);
  bytes = λ t s e b may. old.bytes t s (sym same ∙ e) b (l.bytes_are b may);
}

-- what a loss leaves
pub record Loads (work : Work) (trusted : ℕ → Bool) (m m' : Machine) (h h' : Bool) (k k' : Option ℕ) (ml ml' : List ℕ → Type 0) (f f' : ℕ) : Type 0 where
  pub keeps : KeepsFor work trusted h' k' ml' m'
  pub missed : m'.missed ≡ m.missed
  pub restarts : (m'.restarts ≡ m.restarts) ⊎ (HasFailed f f' ⊎ MayLoadOther work m.saved ml)
  pub left : k' ≡ k
  pub loads : MayLoadStill m m' ml ml'

loads_if : (work : Work) (trusted : ℕ → Bool) (m : Machine) (h h' : Bool) (k k' : Option ℕ) (ml ml' : List ℕ → Type 0) (f f' : ℕ) (asked : Option ℕ) (told : DeviceResult) → asked ≡ m.saved → IsLoadResult work h h' k k' ml ml' f f' asked told → KeepsFor work trusted h k ml m → Loads work trusted m (loading asked told m) h h' k k' ml ml' f f'
loads_if work trusted m h h' k k' ml ml' f f' None told e l old = record { keeps = loads_keeps work trusted m m h h' k k' ml ml' f f' None told refl l old; missed = refl; restarts = inl refl; left = l.saved_is; loads = (l.bytes_are, inl refl) }
loads_if work trusted m h h' k k' ml ml' f f' (Some s) Good e l old = record { keeps = loads_keeps work trusted m m h h' k k' ml ml' f f' (Some s) Good refl l old; missed = refl; restarts = inl refl; left = l.saved_is; loads = (l.bytes_are, inl refl) }
loads_if work trusted m h h' k k' ml ml' f f' (Some s) Failed e l old = record {
  keeps = record { trusts = λ t. l.honest_is ∙ old.trusts t; saved = λ n x. cc; bytes = λ t n x. absurd (cc) };
  missed = refl;
  restarts = inr (subst (λ a. HasFailed f f' ⊎ MayLoadOther work a ml) e (l.cause refl));
  left = l.saved_is;
  loads = (l.bytes_are, inr refl);
}
loads_if work trusted m h h' k k' ml ml' f f' (Some s) NoMemory e l old = record { keeps = loads_keeps work trusted m (after_load NoMemory m) h h' k k' ml ml' f f' (Some s) NoMemory refl l old; missed = refl; restarts = inl refl; left = l.saved_is; loads = (l.bytes_are, inl refl) }

pub loads : (work : Work) (trusted : ℕ → Bool) (m m1 : Machine) (h h' : Bool) (k k' : Option ℕ) (ml ml' : List ℕ → Type 0) (f f' : ℕ) (told : DeviceResult) → m1.saved ≡ m.saved → m1.missed ≡ m.missed → m1.restarts ≡ m.restarts → IsLoadResult work h h' k k' ml ml' f f' m1.saved told → KeepsFor work trusted h k ml m → Loads work trusted m (loading m1.saved told m1) h h' k k' ml ml' f f'
loads work trusted m m1 h h' k k' ml ml' f f' told saved missed restarts l old =
    let x = loads_if work trusted m1 h h' k k' ml ml' f f' m1.saved told refl l (keeps_same work trusted h k ml m m1 saved old) in
    record {
      keeps = x.keeps;
      missed = x.missed ∙ missed;
      left = x.left;
      loads = (x.loads.0, elim x.loads.1 [ inl y ↦ inl (y ∙ saved) | inr y ↦ inr y ]);
      restarts = elim x.restarts [ inl y ↦ inl (y ∙ restarts) | inr y ↦ inr (subst (λ a. HasFailed f f' ⊎ MayLoadOther work a ml) saved y) ];
    }

pub loads_same : (work : Work) (trusted : ℕ → Bool) (m m' m'' : Machine) (h h' : Bool) (k k' : Option ℕ) (ml ml' : List ℕ → Type 0) (f f' : ℕ) → Loads work trusted m m' h h' k k' ml ml' f f' → AreSame m' m'' → Loads work trusted m m'' h h' k k' ml ml' f f'
loads_same work trusted m m' m'' h h' k k' ml ml' f f' s e = record {
  keeps = keeps_same work trusted h' k' ml' m' m'' e.saved s.keeps;
  missed = e.missed ∙ s.missed;
  restarts = elim s.restarts [ inl x ↦ inl (e.restarts ∙ x) | inr x ↦ inr x ];
  left = s.left;
  loads = (s.loads.0, elim s.loads.1 [ inl x ↦ inl (e.saved ∙ x) | inr x ↦ inr (e.saved ∙ x) ]);
}
