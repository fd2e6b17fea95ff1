-- What events leave of the counts and of the Keep.
use Rattle.std.proofs.Common.{◌≡◌, ℕ, List, Bool, Option, Some, None, refl, sym, ap, ◌∙◌, subst, arith, inl, inr}
use Rattle.checkpoint.specs.Keep.{HasFailed, LoadsNothingElse}
use Rattle.superstep.specs.Job.{Work}
use Rattle.control.specs.Machine.{Machine}
use Rattle.book.specs.Saving.{IsCaused, IsKeptStep, IsMadeAt, KeepsFor, MayLoadOther}
use Rattle.book.specs.inside.Counts.{HasSameCounts, LoadsMade}
use Rattle.book.proofs.Keeps.{keeps_same}

pub counts_both : (a b c : Machine) → HasSameCounts a b → HasSameCounts b c → HasSameCounts a c
counts_both a b c x y = record { missed = y.missed ∙ x.missed; restarts = y.restarts ∙ x.restarts }

pub never_more : (f f' : ℕ) → f ≡ 0 → f' ≡ 0 → HasFailed f f' → ⊥
never_more f f' e e' (inl x) = omega (arith, e, e', x)
never_more f f' e e' (inr x) = omega (arith, e', x)

-- what it loads is no other
never_other : (work : Work) (may_load : List ℕ → Type 0) (m : Machine) (saved : Option ℕ) → LoadsMade work may_load m → m.saved ≡ saved → MayLoadOther work saved may_load → ⊥
never_other work may_load m None k e h = h
never_other work may_load m (Some s) k e h =
    let x = k s e h.0 h.1 in
    h.2 x.state x.spelled x.fits

pub counts_kept : (work : Work) (may_load : List ℕ → Type 0) (m m' : Machine) (f f' : ℕ) → f ≡ 0 → f' ≡ 0 → LoadsMade work may_load m → IsCaused work m m' f f' may_load → HasSameCounts m m'
counts_kept work may_load m m' f f' e e' k c = record {
  missed = elim c.missed [ inl x ↦ x | inr x ↦ absurd (never_more f f' e e' x) ];
  restarts = elim c.restarts [
    | inl x ↦ x
    | inr x ↦ elim x [ inl y ↦ absurd (never_more f f' e e' y) | inr y ↦ absurd (never_other work may_load m m.saved k refl y) ]
  ];
}

pub counts_same : (m m' : Machine) → m' ≡ m → HasSameCounts m m'
counts_same m m' e = record { missed = ap (λ (x : Machine). x.missed) e; restarts = ap (λ (x : Machine). x.restarts) e }

pub some_of : (a b : ℕ) → Some a ≡ Some b → a ≡ b
some_of a b e = cc

some_not_none : (a : ℕ) (o : Option ℕ) → o ≡ Some a → o ≡ None → ⊥
some_not_none a o e f = let z = sym e ∙ f in absurd (cc)

module _ {K : Type 0} (honest : K → Bool) (saved : K → Option ℕ) (may_load : K → List ℕ → Type 0) (faults : K → ℕ) (work : Work) (trusted : ℕ → Bool) where
  abbrev Kept : Machine → Machine → K → K → Type 0
  Kept = IsKeptStep honest saved may_load faults work trusted

  -- the Keep has no part in it
  pub kept_still : (m m' : Machine) (k : K) → KeepsFor work trusted (honest k) (saved k) (may_load k) m → m'.saved ≡ m.saved → HasSameCounts m m' → Kept m m' k k
  kept_still m m' k keeps same counts = record {
    keeps = keeps_same work trusted (honest k) (saved k) (may_load k) m m' same keeps;
    cause = record { missed = inl counts.missed; restarts = inl counts.restarts };
    left = inl refl;
    loads = inl (λ bytes may. may, inl same);
  }

  pub loads_made : (m m' : Machine) (k k' : K) → LoadsNothingElse saved may_load → LoadsMade work (may_load k) m → Kept m m' k k' → LoadsMade work (may_load k') m'
  loads_made m m' k k' one made x = λ s e bytes may. elim x.loads [
    | inl y ↦ elim y.1 [
      | inl z ↦ made s (sym z ∙ e) bytes (y.0 bytes may)
      | inr z ↦ absurd (some_not_none s m'.saved e z)
    ]
    | inr y ↦ (let same : m'.superstep ≡ s = some_of m'.superstep s (sym y.1 ∙ e) in
        let own = y.2 in
        let is : own.bytes ≡ bytes = one k' s (x.keeps.saved s e) own.bytes bytes own.may may in
        subst (λ n. IsMadeAt work n bytes) same (subst (λ b. IsMadeAt work m'.superstep b) is own.made))
  ]
