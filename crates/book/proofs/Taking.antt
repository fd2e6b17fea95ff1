-- Results that are not taken.
use Rattle.std.proofs.Common.{◌≡◌, ℕ, ◌<◌, List, length, Bool, true, false, cond, refl}
use Rattle.superstep.specs.Job.{Work}
use Rattle.control.specs.declared.control.Out.{Out}
use Rattle.book.specs.declared.job_data.JobData.{JobData}
use Rattle.control.specs.Machine.{Machine, counts, freed, is_out}
use Rattle.control.specs.Events.{stale_done}
use Rattle.book.specs.inside.Book.{IsBook}
use Rattle.control.specs.inside.Sound.{IsSound}
use Rattle.book.proofs.Kept.{book_freed}
use Rattle.book.proofs.Keeps.{AreSame}
use Rattle.control.proofs.Sound.{HasNone, stale_none}

book_stale_if : (work : Work) (honest : ℕ → Bool) (own : Work) (m : Machine) (ids : List ℕ) {J : _} (job_data : JobData J) (w : ℕ) (c : Bool) → w < length m.out → (c ≡ true → HasNone m w) → IsBook work honest own m ids job_data → IsBook work honest own (cond c (freed m w) m) ids job_data
book_stale_if work honest own m ids job_data w true lt never b = book_freed work honest own m ids job_data w lt (never refl) b
book_stale_if work honest own m ids job_data w false lt never b = b

-- a result that is not taken frees its worker at most
pub book_stale : (work : Work) (honest : ℕ → Bool) (own : Work) (m : Machine) (ids : List ℕ) {J : _} (job_data : JobData J) (w : ℕ) (task : Out) → IsSound m → w < length m.out → counts m w task ≡ false → IsBook work honest own m ids job_data → IsBook work honest own (stale_done m w task) ids job_data
book_stale work honest own m ids job_data w task s lt no' b = book_stale_if work honest own m ids job_data w (is_out m w task) lt (λ out'. stale_none m w task s lt out' no') b

-- what it leaves
pub record Leaves (m m' : Machine) : Type 0 where
  pub same : AreSame m m'
  pub ending : m'.ending ≡ m.ending

leaves_if : (m : Machine) (w : ℕ) (c : Bool) → Leaves m (cond c (freed m w) m)
leaves_if m w true = record { same = record { saved = refl; missed = refl; restarts = refl; superstep = refl }; ending = refl }
leaves_if m w false = record { same = record { saved = refl; missed = refl; restarts = refl; superstep = refl }; ending = refl }

pub stale_leaves : (m : Machine) (w : ℕ) (task : Out) → Leaves m (stale_done m w task)
stale_leaves m w task = leaves_if m w (is_out m w task)
