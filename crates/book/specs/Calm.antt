-- A device that never fails, and a job that misses no save.
use Rattle.std.specs.Prelude.{◌≡◌, ℕ}
use Rattle.control.specs.Machine.{Machine}

-- the device of a Keep never does
abbrev pub NeverFails : {K : Type 0} → (K → ℕ) → Type 0
NeverFails {K} faults = (keep : K) → faults keep ≡ 0

-- no save was missed, and the job never began again
abbrev pub IsCalmAt : Machine → Type 0
IsCalmAt m = (m.missed ≡ 0) × (m.restarts ≡ 0)
