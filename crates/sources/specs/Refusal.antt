-- How a fault is reported: the status of the process, and the line without its line feed.
use Rattle.std.specs.Prelude.{ℕ, List, ◌++◌, codes}
use Rattle.std.specs.Fmt.{decimal}
use Rattle.wasm_items.specs.Faults.{fault_text as decode_text}
use Rattle.wasm_decode.specs.Faults.{encode_word}
use Rattle.wat_syntax.specs.Faults.{fault_text as text_fault_text}
use Rattle.validate.specs.Faults.{fault_text as invalid_text}
use Rattle.profile_rules.specs.FaultText.{fault_text as unbounded_text}
use Rattle.graph.specs.Faults.{fault_text as graph_text}
use Rattle.job_state.specs.Faults.{fault_word as job_word}
use Rattle.checkpoint.specs.Faults.{fault_word as checkpoint_word}
use Rattle.job_state.specs.declared.settings.Setting.{Setting}
use Rattle.job_state.specs.declared.settings.Setting.TheVariants as setting
use Rattle.call_lines.specs.declared.input.InputFault.{InputFault}
use Rattle.call_lines.specs.declared.input.InputFault.TheVariants as input
use Rattle.sources.specs.declared.fault.CommandFault.{CommandFault}
use Rattle.sources.specs.declared.fault.CommandFault.TheVariants as command

-- the exit status: 4 for a fault of a file, 3 for a job that ended with a fault, 1 for any other
abbrev pub status_of : CommandFault → ℕ
status_of (command.Job fault) = 3
status_of (command.Unread path) = 4
status_of (command.Unwritable path) = 4
status_of _ = 1

-- ---- the line

-- the number of the first bad line
abbrev pub input_text : InputFault → List ℕ
input_text (input.Line number) = codes "no input " ++ decimal number
input_text input.OutOfMemory = codes "no memory"

abbrev pub setting_word : Setting → List ℕ
setting_word setting.Parts = codes "parts"
setting_word setting.Workers = codes "workers"
setting_word setting.Every = codes "every"
setting_word setting.Limit = codes "limit"
setting_word setting.Lease = codes "lease"

abbrev pub file_text : List ℕ → List ℕ
file_text path = codes "no file " ++ path

abbrev pub fault_text : CommandFault → List ℕ
fault_text (command.Decode fault) = codes "no decode " ++ decode_text fault
fault_text (command.Text fault) = codes "no text " ++ text_fault_text fault
fault_text (command.Invalid fault) = codes "no valid " ++ invalid_text fault
fault_text (command.Unbounded fault) = codes "no profile " ++ unbounded_text fault
fault_text (command.Input fault) = input_text fault
fault_text command.Run = codes "no run OutOfMemory"
fault_text command.Loss = codes "no input lose"
fault_text (command.Graph fault) = codes "no graph " ++ graph_text fault
fault_text (command.Settings which) = codes "no settings " ++ setting_word which
fault_text command.MaxSize = codes "no settings max-size"
fault_text command.Resume = codes "no settings resume"
fault_text (command.Job fault) = codes "end fault " ++ job_word fault
fault_text (command.Checkpoint fault) = codes "no checkpoint " ++ checkpoint_word fault
fault_text (command.Encode fault) = codes "no encode " ++ encode_word fault
fault_text (command.Unread path) = file_text path.now
fault_text (command.Unwritable path) = file_text path.now
fault_text command.OutOfMemory = codes "no memory"
