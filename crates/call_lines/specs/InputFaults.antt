-- The reasons why a text is no input.
use Rattle.std.specs.Prelude.{◌≡◌, ◌<◌, ◌+◌, ℕ, List, length, take}
use Rattle.call_lines.specs.declared.input.InputFault.{InputFault}
use Rattle.call_lines.specs.declared.input.InputFault.TheVariants as fault
use Rattle.call_lines.specs.declared.input_line.Line.{Line}
use Rattle.call_lines.specs.InputSays.{AreInput}

-- this is the number of the first bad line, from 1: the lines before it are those of an input, and with it they are not
pub record IsFirstBad (lines : List Line) (number : ℕ) : Type 0 where
  pub before : ℕ
  pub counted : number ≡ before + 1
  pub within : before < length lines
  pub good : AreInput (take before lines)
  pub bad : ¬ (AreInput (take number lines))

abbrev pub IsInputFault : List Line → InputFault → Type 0
IsInputFault lines (fault.Line number) = IsFirstBad lines number
IsInputFault lines fault.OutOfMemory = Unit {0}
