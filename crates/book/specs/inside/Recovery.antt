-- What a book holds when it goes on with a state.
use Rattle.std.specs.Prelude.{◌≡◌, ℕ, Bool, true, false}
use Rattle.job_state.specs.State.{Standing}
use Rattle.book.specs.declared.job_data.JobData.{JobData}
use Rattle.book.specs.declared.job_data.JobData.TheVariants.{Nothing, Parts, Whole}
use Rattle.control.specs.Machine.{Machine, has_answer, is_running}
use Rattle.book.specs.inside.Parts.{all_home}
use Rattle.book.specs.inside.Book.{is_fault}

-- there was memory for it
abbrev pub has_room : {J : _} → JobData J → Bool
has_room (Parts placement) = true
has_room (Whole whole) = true
has_room Nothing = false

-- of the state of a new superstep
abbrev pub IsHeldOf : {J : _} → ℕ → Machine → Machine → Standing → JobData J → Type 0
IsHeldOf parts before after state (Parts placement) =
    (is_running before.ending ≡ true) × (after ≡ before) × (placement ≡ all_home before.epoch state.superstep state.since parts)
IsHeldOf parts before after state (Whole whole) = (has_answer before.ending ≡ true) × (after ≡ before) × (whole ≡ state)
IsHeldOf parts before after state Nothing = is_fault after.ending ≡ true

-- of a state that was loaded after a loss
abbrev pub StandsBack : {J : _} → ℕ → ℕ → Machine → JobData J → Type 0
StandsBack parts s after (Parts placement) =
    (is_running after.ending ≡ true) × ((since : ℕ) × (placement ≡ all_home after.epoch s since parts))
StandsBack parts s after (Whole whole) = ⊥
StandsBack parts s after Nothing = is_fault after.ending ≡ true

-- of the state before superstep 0, which is quiet or not
abbrev pub IsFirst : {J : _} → ℕ → Bool → Standing → JobData J → Type 0
IsFirst parts quiet state (Parts placement) = (quiet ≡ false) × (placement ≡ all_home 0 state.superstep state.since parts)
IsFirst parts quiet state (Whole whole) = (quiet ≡ true) × (whole ≡ state)
IsFirst parts quiet state Nothing = ⊥
