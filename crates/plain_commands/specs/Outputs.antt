-- What a command that runs no job in threads prints, and what it writes.
use Rattle.std.specs.Prelude.{◌≡◌, ℕ, List, ◌++◌, Option, Result, Ok, MatchResult, codes}
use Rattle.std.specs.Fmt.{decimal}
use Rattle.std.specs.Io.KnownBytes.{Appends}
use Rattle.wasm_ast.specs.declared.module.Module.{Module}
use Rattle.verified.specs.Facts.{IsSizeAt, IsHeightAt, IsDepthAt}
use Rattle.verified.specs.Profile.{HasCompute}
use Rattle.line_text.specs.Output.{HasBegun}
use Rattle.superstep.specs.Job.{Work}
use Rattle.rollback.specs.declared.simulation.Step.{Step}
use Rattle.requests.specs.declared.request.JobRequest.{JobRequest}
use Rattle.requests.specs.declared.request.ModuleRequest.{ModuleRequest}
use Rattle.call_lines.specs.OutputLines.{line}
use Rattle.sources.specs.Disk.{Disk, HoldsAt}
use Rattle.plain_commands.specs.ComputeCall.{AreCallLines}
use Rattle.plain_commands.specs.Replays.{AreReplayLines}
use Rattle.plain_commands.specs.Sizes.{IsAdmitted}
use Rattle.plain_commands.specs.Steps.{steps_of}
use Rattle.plain_commands.specs.Opening.{IsJobAt}

-- ---- answers

-- the files hold a module and a text, and the lines of the call are told
abbrev pub PrintsOutcome : Disk → ModuleRequest → (input_path told : List ℕ) → Type 0
PrintsOutcome disk asked input_path told =
    (m : Module) × IsAdmitted disk asked m × HoldsAt disk input_path (λ text. AreCallLines m text told)

-- the file's text means these steps
abbrev pub AreStepsAt : Disk → (path : List ℕ) → List Step → Type 0
AreStepsAt disk path steps = HoldsAt disk path (λ text. steps_of text ≡ Ok steps)

-- the lines of a replay of the job over the steps in a third file are printed
abbrev pub PrintsReplay : Disk → JobRequest → (steps_path told : List ℕ) → Type 0
PrintsReplay disk asked steps_path told =
    (job : Work) × IsJobAt disk asked job
    × ((steps : List Step) × AreStepsAt disk steps_path steps × AreReplayLines job asked.tells_units steps told)

abbrev pub bounds_line : (size operands frames : ℕ) → List ℕ
bounds_line size operands frames =
    line (codes "ok size " ++ decimal size ++ codes " operands " ++ decimal operands ++ codes " frames " ++ decimal frames)

-- the line has the size, the operands and the frames of the module's `compute`
pub record IsBoundsLine (m : Module) (told : List ℕ) : Type 0 where
  pub size : ℕ
  pub operands : ℕ
  pub frames : ℕ
  pub has_size : (compute : HasCompute m) → IsSizeAt m compute.number size
  pub has_operands : (compute : HasCompute m) → IsHeightAt m compute.number operands
  pub has_frames : (compute : HasCompute m) → IsDepthAt m compute.number frames
  pub printed : told ≡ bounds_line size operands frames

-- the file's module is loaded, and its bounds are told
abbrev pub PrintsBounds : Disk → ModuleRequest → (told : List ℕ) → Type 0
PrintsBounds disk asked told = (m : Module) × IsAdmitted disk asked m × IsBoundsLine m told

-- ---- the output

-- this was printed and this status is returned; or the writer failed, and a beginning of it was printed
abbrev pub HasPrinted : {E : Type 0} → (old new : Option (List ℕ)) → (status : ℕ) → (told : List ℕ) → Result ℕ E → Type 0
HasPrinted old new status told answer = MatchResult answer (λ s. (s ≡ status) × Appends old new told) (λ _. HasBegun old new told)
