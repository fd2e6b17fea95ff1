-- The lost worker of a run, and why a text names none.
use denote.Bor.{Bor}
use Rattle.std.specs.Prelude.{◌≡◌, ◌≢◌, ℕ, ◌==◌, ◌&&◌, nat_le, nat_lt, Bool, List, length, Option, Some, None, if◌then◌else◌}
use Rattle.std.specs.List.{after_first, before_first, position_or_len}
use Rattle.sources.specs.declared.fault.CommandFault.{CommandFault}
use Rattle.sources.specs.declared.fault.CommandFault.TheVariants as command
use Rattle.run_views.specs.declared.loss.Loss.{Loss}
use Rattle.call_lines.specs.InputLine.{u32_of}

abbrev pub is_colon : ℕ → Bool
is_colon byte = byte == 58

abbrev pub loss_at : (worker superstep : Option ℕ) → Option Loss
loss_at (Some worker) (Some superstep) = Some (record { worker = worker; superstep = superstep })
loss_at _ _ = None

-- a worker and a superstep, each of 32 bits, and the first colon between them
abbrev pub loss_of : List ℕ → Option Loss
loss_of text =
    if nat_lt (position_or_len is_colon text) (length text)
    then loss_at (u32_of (before_first is_colon text)) (u32_of (after_first is_colon text))
    else None

-- the worker is lost with a task of this superstep
abbrev pub is_due : Loss → (worker superstep : ℕ) → Bool
is_due loss worker superstep = (loss.worker == worker) && nat_le loss.superstep superstep

-- the option names this loss, or is not given
abbrev pub NamesLoss : Option (Bor (List ℕ)) → Option Loss → Type 0
NamesLoss None loss = loss ≡ None
NamesLoss (Some text) loss = (loss ≡ loss_of text.now) × (loss ≢ None)

-- the fault is that the text names no loss, or that memory ran out
abbrev pub RefusesLoss : CommandFault → Option (Bor (List ℕ)) → Type 0
RefusesLoss command.Loss None = ⊥
RefusesLoss command.Loss (Some text) = loss_of text.now ≡ None
RefusesLoss command.OutOfMemory lose = Unit {0}
RefusesLoss _ lose = ⊥
