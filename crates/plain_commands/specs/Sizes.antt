-- Which module of a file a command takes, where its size may be bounded.
use Rattle.std.specs.Prelude.{ℕ, ◌<◌, ◌≤◌, ◌⊎◌, ⊤, Option, None, Some}
use Rattle.wasm_ast.specs.declared.module.Module.{Module}
use Rattle.verified.specs.Facts.{IsSizeOfCompute}
use Rattle.requests.specs.declared.request.ModuleRequest.{ModuleRequest}
use Rattle.sources.specs.declared.fault.CommandFault.{CommandFault}
use Rattle.sources.specs.declared.fault.CommandFault.TheVariants as command
use Rattle.sources.specs.Disk.{Disk}
use Rattle.sources.specs.Reading.{IsLoadedAt, IsRefusedAt}
use Rattle.sources.specs.Source.{RefusesLoad}

-- the size of the module's `compute` is at most this, where there is a bound
abbrev pub IsOfSize : (most : Option ℕ) → Module → Type 0
IsOfSize None m = ⊤
IsOfSize (Some most) m = (size : ℕ) × IsSizeOfCompute m size × (size ≤ most)

-- the file's module is loaded, and its size is not too great
pub record IsAdmitted (disk : Disk) (asked : ModuleRequest) (m : Module) : Type 0 where
  pub loaded : IsLoadedAt disk asked.path.now m
  pub sized : IsOfSize asked.max_size m

-- what a fault says of a module's size: there is a bound, and the size is greater
abbrev pub RefusesSize : (most : Option ℕ) → Module → CommandFault → Type 0
RefusesSize (Some most) m command.MaxSize = (size : ℕ) × IsSizeOfCompute m size × (most < size)
RefusesSize most m fault = ⊥

-- why the file's module is not taken: it is refused itself, or it is loaded and its size is too great
abbrev pub IsNotAdmitted : Disk → ModuleRequest → CommandFault → Type 0
IsNotAdmitted disk asked fault =
    IsRefusedAt disk asked.path.now RefusesLoad fault
    ⊎ ((m : Module) × IsLoadedAt disk asked.path.now m × RefusesSize asked.max_size m fault)
