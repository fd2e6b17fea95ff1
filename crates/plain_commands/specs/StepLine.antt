-- The meaning of one line of a replay.
use Rattle.std.specs.Prelude.{ℕ, ◌==◌, List, [], ◌∷◌, slice_index, Option, Some, None, codes, if◌then◌else◌}
use Rattle.std.specs.Str.{bytes_eq}
use Rattle.line_text.specs.Fields.{fields}
use Rattle.rollback.specs.declared.simulation.Step.{Step}
use Rattle.rollback.specs.declared.simulation.Step.TheVariants.{Join, Lose, Take, Tick, Work}
use Rattle.plain_commands.specs.declared.step_line.StepLine.{StepLine}
use Rattle.plain_commands.specs.declared.step_line.StepLine.TheVariants.{Skipped, Says, Bad}
use Rattle.call_lines.specs.InputLine.{u32_of}

-- a name alone
abbrev pub alone : List ℕ → StepLine
alone name = if bytes_eq name (codes "tick") then Says Tick else Bad

-- a step of the worker with this number; a field that is no number is bad
abbrev pub says_step : (ℕ → Step) → Option ℕ → StepLine
says_step step None = Bad
says_step step (Some worker) = Says (step worker)

-- a name and a worker, whose number has 32 bits
abbrev pub of_worker : (name worker : List ℕ) → StepLine
of_worker name worker =
    if bytes_eq name (codes "take") then says_step Take (u32_of worker)
    else if bytes_eq name (codes "work") then says_step Work (u32_of worker)
    else if bytes_eq name (codes "lose") then says_step Lose (u32_of worker)
    else if bytes_eq name (codes "join") then says_step Join (u32_of worker)
    else Bad

-- the meaning of fields: skipped where there are none, or a step
abbrev pub step_of_fields : List (List ℕ) → StepLine
step_of_fields [] = Skipped
step_of_fields (name ∷ []) = alone name
step_of_fields (name ∷ worker ∷ []) = of_worker name worker
step_of_fields _ = Bad

-- a line that begins with `#` is a comment
abbrev pub step_line_of : List ℕ → StepLine
step_line_of line = if slice_index line 0 == 35 then Skipped else step_of_fields (fields line)
