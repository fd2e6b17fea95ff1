-- Why no file is made of another.
use Rattle.std.specs.Prelude.{◌≡◌, ℕ, ◌<◌, ◌⊎◌, Bool, false, List, length}
use Rattle.wasm_ast.specs.declared.module.Module.{Module}
use Rattle.wasm_ast.specs.Limits.{IsWithinLimits, max_module_bytes}
use Rattle.wasm_decode.specs.Canonical.{canonical}
use Rattle.wasm_decode.specs.declared.encoder.fault.EncodeFault.TheVariants as encode
use Rattle.verified.specs.Modules.{IsTyped}
use Rattle.validate.specs.declared.fault.ValidFault.TheVariants as valid
use Rattle.fit.specs.Fit.{IsFitOf}
use Rattle.job_state.specs.State.{Standing}
use Rattle.checkpoint.specs.Reading.{Fails, state_of}
use Rattle.sources.specs.declared.fault.CommandFault.{CommandFault}
use Rattle.sources.specs.declared.fault.CommandFault.TheVariants as command
use Rattle.sources.specs.Disk.{Disk, HoldsAt, Stays}
use Rattle.sources.specs.Modules.{MeansBy}
use Rattle.sources.specs.Source.{RefusesModule}
use Rattle.sources.specs.Reading.{IsRefusedAt, IsUnread, IsUnwritable}
use Rattle.conversions.specs.Outputs.{IsKeptAt}

-- the fault is that of reading these bytes as a checkpoint; running out of memory needs no reason
abbrev pub RefusesCheckpoint : List ℕ → CommandFault → Type 0
RefusesCheckpoint bytes (command.Checkpoint fault) = Fails fault (state_of bytes)
RefusesCheckpoint bytes _ = ⊥

-- the file is not read, or has no checkpoint
abbrev pub IsNoCheckpointAt : Disk → (path : List ℕ) → CommandFault → Type 0
IsNoCheckpointAt disk path fault = IsUnread false disk path fault ⊎ HoldsAt disk path (λ bytes. RefusesCheckpoint bytes fault)

-- why the checkpoint in one file is not written to the other
abbrev pub IsNotUpgraded : Disk → (path newer_path : List ℕ) → CommandFault → Type 0
IsNotUpgraded disk path newer_path fault =
    IsNoCheckpointAt disk path fault ⊎ ((state : Standing) × IsKeptAt disk path state × IsUnwritable disk newer_path fault)

-- why the module's spelling is not written
abbrev pub IsUnspelled : Disk → List ℕ → Module → CommandFault → Type 0
IsUnspelled disk path m (command.Encode fault) = fault ≡ encode.OverLimit → max_module_bytes < length (canonical m)
IsUnspelled disk path m fault = IsUnwritable disk path fault

-- why no spelling is written of a text or bytes
abbrev pub RefusesSpelled : Disk → (binary_path : List ℕ) → (is_text : Bool) → List ℕ → CommandFault → Type 0
RefusesSpelled disk binary_path is_text content fault =
    RefusesModule is_text content fault ⊎ ((m : Module) × MeansBy is_text content m × IsUnspelled disk binary_path m fault)

-- why the module in one file is not written to the other
abbrev pub IsUnassembled : Disk → (module_path binary_path : List ℕ) → CommandFault → Type 0
IsUnassembled disk module_path binary_path fault = IsRefusedAt disk module_path (RefusesSpelled disk binary_path) fault

-- why what a module is rewritten to is not written: the module is not valid, or memory ran out, or the spelling is not written
abbrev pub RefusesFit : Disk → (binary_path : List ℕ) → Module → CommandFault → Type 0
RefusesFit disk binary_path m (command.Invalid fault) = IsTyped m → IsWithinLimits m → fault ≡ valid.OutOfMemory
RefusesFit disk binary_path m command.OutOfMemory = Unit {0}
RefusesFit disk binary_path m fault = (made : Module) × IsFitOf m made × IsUnspelled disk binary_path made fault

-- the same of a text or bytes
abbrev pub RefusesFitted : Disk → (binary_path : List ℕ) → (is_text : Bool) → List ℕ → CommandFault → Type 0
RefusesFitted disk binary_path is_text content fault =
    RefusesModule is_text content fault ⊎ ((m : Module) × MeansBy is_text content m × RefusesFit disk binary_path m fault)

-- why what the module in one file is rewritten to is not written to the other
abbrev pub IsUnfitted : Disk → (module_path binary_path : List ℕ) → CommandFault → Type 0
IsUnfitted disk module_path binary_path fault = IsRefusedAt disk module_path (RefusesFitted disk binary_path) fault

-- ---- what is written before a fault

-- the fault is found before any file is written
abbrev pub IsBeforeWriting : CommandFault → Type 0
IsBeforeWriting (command.Unwritable path) = ⊥
IsBeforeWriting command.OutOfMemory = ⊥
IsBeforeWriting fault = Unit {0}

-- if the fault is found before any file is written, none was written
abbrev pub StaysBeforeWriting : (before after : Disk) → CommandFault → Type 0
StaysBeforeWriting before after fault = IsBeforeWriting fault → Stays before after
