-- What a book that goes on begins with.
use Rattle.std.proofs.Common.{◌≡◌, ℕ, List, Bool, true, Option, Some, refl, sym, ap, ◌∙◌, subst}
use Rattle.job_state.specs.declared.settings.Settings.{Settings}
use Rattle.superstep.specs.Job.{Work}
use Rattle.control.specs.declared.job_status.DeviceResult.{DeviceResult}
use Rattle.control.specs.declared.job_status.DeviceResult.TheVariants.{Good}
use Rattle.control.specs.Machine.{Machine, resumed}
use Rattle.control.specs.Events.{Heard, loading, slicing}
use Rattle.book.specs.Saving.{HasLeft, IsBegun, IsLoadResult, IsSavedAt, KeepsFor}
use Rattle.book.proofs.Keeps.{AreSame, loads, loads_same, slicing_same}

some_is : (a b : ℕ) → Some a ≡ Some b → a ≡ b
some_is a b e = cc

-- a Keep that has what an earlier run left has what the book counts as saved
pub keeps_resumed : (work : Work) (trusted : ℕ → Bool) (honest : Bool) (kept : Option ℕ) (may_load : List ℕ → Type 0) (settings : Settings) (s : ℕ) (m : Machine) → m ≡ resumed settings s → kept ≡ Some s → (trusted 1 ≡ true → honest ≡ true) → (trusted 1 ≡ true → HasLeft work may_load s) → KeepsFor work trusted honest kept may_load m
keeps_resumed work trusted honest kept may_load settings s m is has sure left =
    let saved : m.saved ≡ Some s = ap (λ (x : Machine). x.saved) is in
    record {
      trusts = sure;
      saved = λ n e. has ∙ sym saved ∙ e;
      bytes = λ t n e bytes may state spelled.
          subst (λ k. IsSavedAt work k bytes) (some_is s n (sym saved ∙ e)) ((left t).bytes bytes may state spelled);
    }

-- what the machine is told
abbrev told_begun : (told : DeviceResult) (sliced : Bool) → Heard
told_begun told sliced = record { quiet = true; merged = true; save = Good; load = told; sliced = sliced }

pub is_begun : (work : Work) (trusted : ℕ → Bool) (h h' : Bool) (k k' : Option ℕ) (ml ml' : List ℕ → Type 0) (f f' : ℕ) (settings : Settings) (s : ℕ) (m1 m2 : Machine) (told : DeviceResult) (sliced : Bool) → settings ≡ work.settings → m1 ≡ resumed settings s → m2 ≡ slicing sliced (loading m1.saved told m1) → IsLoadResult work h h' k k' ml ml' f f' m1.saved told → KeepsFor work trusted h k ml m1 → IsBegun work trusted h h' k k' ml ml' f f' s m2
is_begun work trusted h h' k k' ml ml' f f' settings s m1 m2 told sliced same first loaded load keeps =
    let is : m1 ≡ resumed work.settings s = first ∙ ap (λ x. resumed x s) same in
    let x = loads work trusted m1 m1 h h' k k' ml ml' f f' told refl refl refl load keeps in
    let y = loads_same work trusted m1 (loading m1.saved told m1) m2 h h' k k' ml ml' f f' x (subst (λ z. AreSame (loading m1.saved told m1) z) (sym loaded) (slicing_same (loading m1.saved told m1) sliced)) in
    record {
      heard = told_begun told sliced;
      machine = loaded ∙ ap (λ (z : Machine). slicing sliced (loading z.saved told z)) is;
      told = subst (λ o. IsLoadResult work h h' k k' ml ml' f f' o told) (ap (λ (z : Machine). z.saved) is) load;
      keeps = y.keeps;
    }
