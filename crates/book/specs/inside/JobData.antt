-- What a book holds, as it is kept.
use Rattle.std.specs.Prelude.{◌≡◌, ◌<◌, ◌≤◌, ℕ, length}
use Rattle.job_state.specs.Stamps.{DoneStamp}
use Rattle.book.specs.declared.job_data.JobData.{JobData}
use Rattle.book.specs.declared.job_data.JobData.TheVariants.{Nothing, Parts, Whole}
use Rattle.book.specs.inside.Parts.{IsHome, Placement}

-- these are the parts of a job that runs, and this is so of them
abbrev pub Runs : {J : _} → JobData J → (Placement → Type 0) → Type 0
Runs (Parts placement) is = is placement
Runs (Whole state) is = ⊥
Runs Nothing is = ⊥

abbrev pub HasHome : {J : _} → JobData J → ℕ → Type 0
HasHome job_data part = Runs job_data (λ placement. IsHome placement part)

-- it is of a part of this superstep, and no older than what is here
abbrev pub FitsPart : {J : _} → JobData J → DoneStamp → Type 0
FitsPart job_data done = Runs job_data (λ placement. (done.superstep ≡ placement.superstep) × (done.part < length placement.spots) × (placement.epoch ≤ done.epoch))
