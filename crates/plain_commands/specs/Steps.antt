-- The steps that a text means.
use Rattle.std.specs.Prelude.{◌≡◌, ℕ, suc, List, [], ◌∷◌, map, Result, Ok, Err}
use Rattle.std.specs.Str.Lines.{lines}
use Rattle.rollback.specs.declared.simulation.Step.{Step}
use Rattle.call_lines.specs.declared.input.InputFault.{InputFault}
use Rattle.call_lines.specs.declared.input.InputFault.TheVariants as fault
use Rattle.sources.specs.declared.fault.CommandFault.{CommandFault}
use Rattle.sources.specs.declared.fault.CommandFault.TheVariants as command
use Rattle.plain_commands.specs.declared.step_line.StepLine.{StepLine}
use Rattle.plain_commands.specs.declared.step_line.StepLine.TheVariants.{Skipped, Says, Bad}
use Rattle.plain_commands.specs.StepLine.{step_line_of}

-- a step, and the steps after it
abbrev pub put_first : Step → Result (List Step) ℕ → Result (List Step) ℕ
put_first step (Ok steps) = Ok (step ∷ steps)
put_first step (Err number) = Err number

-- the steps of lines, the first of which has this number; or the number of the first bad line
abbrev pub steps_from : ℕ → List StepLine → Result (List Step) ℕ
steps_from number [] = Ok []
steps_from number (Skipped ∷ rest) = steps_from (suc number) rest
steps_from number (Says step ∷ rest) = put_first step (steps_from (suc number) rest)
steps_from number (Bad ∷ rest) = Err number

-- The steps of a text, or the number of its first bad line, from 1. A line ends with a line feed, with or without a
-- carriage return before it. The last line may have no end.
abbrev pub steps_of : List ℕ → Result (List Step) ℕ
steps_of text = steps_from 1 (map step_line_of (lines text))

-- why a text means no steps; running out of memory needs no reason
abbrev pub IsStepsFault : List ℕ → InputFault → Type 0
IsStepsFault text (fault.Line number) = steps_of text ≡ Err number
IsStepsFault text fault.OutOfMemory = Unit {0}

abbrev pub RefusesSteps : List ℕ → CommandFault → Type 0
RefusesSteps text (command.Input fault) = IsStepsFault text fault
RefusesSteps text _ = ⊥
