-- Why a command that runs no job in threads is refused.
use Rattle.std.specs.Prelude.{ℕ, ◌⊎◌, true, List}
use Rattle.wasm_ast.specs.declared.module.Module.{Module}
use Rattle.superstep.specs.Job.{Work}
use Rattle.rollback.specs.declared.simulation.Step.{Step}
use Rattle.sources.specs.declared.fault.CommandFault.{CommandFault}
use Rattle.requests.specs.declared.request.JobRequest.{JobRequest}
use Rattle.requests.specs.declared.request.ModuleRequest.{ModuleRequest}
use Rattle.sources.specs.Disk.{Disk, HoldsAt}
use Rattle.sources.specs.Reading.{IsUnread}
use Rattle.plain_commands.specs.ComputeCall.{RefusesText}
use Rattle.plain_commands.specs.Replays.{IsFaultOfReplay}
use Rattle.plain_commands.specs.Sizes.{IsAdmitted, IsNotAdmitted}
use Rattle.plain_commands.specs.Steps.{RefusesSteps}
use Rattle.plain_commands.specs.Opening.{IsJobAt, IsUnopened}
use Rattle.plain_commands.specs.Outputs.{AreStepsAt}

-- why a call of a module is refused: the input's file is not read, or its text is refused
abbrev pub RefusesInput : Disk → (input_path : List ℕ) → Module → CommandFault → Type 0
RefusesInput disk input_path m fault =
    IsUnread true disk input_path fault ⊎ HoldsAt disk input_path (λ text. RefusesText m text fault)

-- why there is no call of the module in one file with the input in the other: the module is looked at first
abbrev pub IsUncalled : Disk → ModuleRequest → (input_path : List ℕ) → CommandFault → Type 0
IsUncalled disk asked input_path fault =
    IsNotAdmitted disk asked fault ⊎ ((m : Module) × IsAdmitted disk asked m × RefusesInput disk input_path m fault)

-- the file of steps is not read, or its text means no steps
abbrev pub IsNoStepsAt : Disk → (path : List ℕ) → CommandFault → Type 0
IsNoStepsAt disk path fault = IsUnread true disk path fault ⊎ HoldsAt disk path (λ text. RefusesSteps text fault)

-- why a replay of a job is refused: there are no steps, or it ends with a fault
abbrev pub RefusesReplay : Disk → (steps_path : List ℕ) → Work → CommandFault → Type 0
RefusesReplay disk steps_path job fault =
    IsNoStepsAt disk steps_path fault
    ⊎ ((steps : List Step) × AreStepsAt disk steps_path steps × IsFaultOfReplay job steps fault)

-- why a replay is refused: there is no job, or its replay is refused
abbrev pub IsUnreplayed : Disk → JobRequest → (steps_path : List ℕ) → CommandFault → Type 0
IsUnreplayed disk asked steps_path fault =
    IsUnopened disk asked fault ⊎ ((job : Work) × IsJobAt disk asked job × RefusesReplay disk steps_path job fault)
