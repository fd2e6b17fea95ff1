-- The steps of answering a command.
use Rattle.std.specs.Prelude.{◌≡◌, ◌⊎◌, ℕ, List, Option, Result}
use Rattle.wasm_ast.specs.declared.module.Module.{Module}
use Rattle.verified.specs.declared.call.CallInput.{CallInput}
use Rattle.verified.specs.declared.call.CallOutcome.{CallOutcome}
use Rattle.job_state.specs.declared.fault.JobFault.{JobFault}
use Rattle.job_state.specs.declared.fault.JobFault.TheVariants as job_fault
use Rattle.sources.specs.declared.fault.CommandFault.{CommandFault}
use Rattle.sources.specs.declared.fault.CommandFault.TheVariants as command
use Rattle.call_lines.specs.OutputLines.{line, outcome_lines}
use Rattle.semantics.specs.Call.{IsOutcome}
use Rattle.sources.specs.Refusal.{fault_text, status_of}
use Rattle.plain_commands.specs.Outputs.{HasPrinted}

-- the lines are those of the outcome of a call with this input
abbrev pub AnswersInput : Module → CallInput → (lines : List ℕ) → Type 0
AnswersInput m input lines = (outcome : CallOutcome) × IsOutcome m input outcome × (lines ≡ outcome_lines outcome)

-- this fault is printed, or that there was no memory for its line
abbrev pub HasPrintedFault : {E : Type 0} → (old new : Option (List ℕ)) → CommandFault → Result ℕ E → Type 0
HasPrintedFault old new fault answer =
    (told : CommandFault) × ((told ≡ fault) ⊎ (told ≡ command.OutOfMemory))
    × HasPrinted old new (status_of told) (line (fault_text told)) answer

-- the fault of a job that was not opened
abbrev pub opening_fault : JobFault → CommandFault
opening_fault (job_fault.Settings setting) = command.Settings setting
opening_fault fault = command.OutOfMemory
