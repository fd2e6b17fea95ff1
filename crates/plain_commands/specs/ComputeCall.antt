-- What a call of a module, in a text or bytes, with an input's text answers, and why it does not.
use Rattle.std.specs.Prelude.{◌≡◌, ◌⊎◌, ℕ, Bool, List}
use Rattle.wasm_ast.specs.declared.module.Module.{Module}
use Rattle.verified.specs.declared.call.CallInput.{CallInput}
use Rattle.verified.specs.declared.call.CallOutcome.{CallOutcome}
use Rattle.semantics.specs.Call.{IsOutcome}
use Rattle.call_lines.specs.InputSays.{lines_of}
use Rattle.call_lines.specs.Input.{Means}
use Rattle.call_lines.specs.InputFaults.{IsInputFault}
use Rattle.call_lines.specs.OutputLines.{outcome_lines}
use Rattle.sources.specs.Modules.{Loads}
use Rattle.sources.specs.Source.{RefusesLoad}
use Rattle.sources.specs.declared.fault.CommandFault.{CommandFault}
use Rattle.sources.specs.declared.fault.CommandFault.TheVariants as command

-- ---- answers

-- The lines are those of the outcome of a call of the module, on the input that the text means.
pub record AreCallLines (m : Module) (text lines : List ℕ) : Type 0 where
  pub input : CallInput
  pub means : Means text input
  pub outcome : CallOutcome
  pub ends : IsOutcome m input outcome
  pub printed : lines ≡ outcome_lines outcome

-- From bytes to bytes: the lines are those of the outcome of the module that a text or bytes mean, on the input that the
-- other text means.
pub record IsCallAnswer (is_text : Bool) (content text lines : List ℕ) : Type 0 where
  pub m : Module
  pub loads : Loads is_text content m
  pub answers : AreCallLines m text lines

-- ---- refusals

-- memory ran out in a call, or for the lines of its outcome
abbrev pub IsWantOfCall : CommandFault → Type 0
IsWantOfCall command.Run = Unit {0}
IsWantOfCall command.OutOfMemory = Unit {0}
IsWantOfCall _ = ⊥

-- what a fault says of a call of a module
abbrev pub RefusesText : Module → List ℕ → CommandFault → Type 0
RefusesText m text (command.Input fault) = IsInputFault (lines_of text) fault
RefusesText m text command.Run = Unit {0}
RefusesText m text command.OutOfMemory = Unit {0}
RefusesText m text _ = ⊥

-- what a fault says of what is written and a text: what is written is looked at first
abbrev pub RefusesAnswer : (is_text : Bool) → (content text : List ℕ) → CommandFault → Type 0
RefusesAnswer is_text content text fault =
    RefusesLoad is_text content fault ⊎ ((m : Module) × Loads is_text content m × RefusesText m text fault)
