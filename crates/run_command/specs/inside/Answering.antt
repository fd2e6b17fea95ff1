-- The steps of answering a command.
use Rattle.std.specs.Prelude.{◌≡◌, ℕ, Bool, List, Result, Ok, Err}
use Rattle.job_state.specs.declared.fault.JobFault.{JobFault}
use Rattle.book.specs.declared.report.Report.{Report}
use Rattle.sources.specs.declared.fault.CommandFault.{CommandFault}
use Rattle.sources.specs.declared.fault.CommandFault.TheVariants as command
use Rattle.call_lines.specs.OutputLines.{ended_lines}

-- the lines are those of what the job ended with
abbrev pub AreLinesOfAnswer : Result Report JobFault → (tells_units : Bool) → (lines : List ℕ) → Type 0
AreLinesOfAnswer (Ok report) tells_units lines = lines ≡ ended_lines tells_units report.ended
AreLinesOfAnswer (Err fault) tells_units lines = ⊥

-- the fault is the one that the job ended with; if it ended with none, there is no memory for its lines
abbrev pub IsFaultOfAnswer : Result Report JobFault → CommandFault → Type 0
IsFaultOfAnswer (Ok report) told = told ≡ command.OutOfMemory
IsFaultOfAnswer (Err fault) told = told ≡ command.Job fault
