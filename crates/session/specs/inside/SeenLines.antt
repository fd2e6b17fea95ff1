-- The models of commands and replies, without references.
use Rattle.std.specs.Prelude.{◌≡◌, ◌⊎◌, ℕ, List, Result, Ok, Err, String, string_bytes}
use Rattle.wasm_ast.specs.declared.module.Module.{Module}
use Rattle.verified.specs.Facts.{IsSizeOfCompute}
use Rattle.job_state.specs.declared.fault.JobFault.{JobFault}
use Rattle.session.specs.declared.command.Command.{Command}
use Rattle.session.specs.declared.command.Command.TheVariants as command
use Rattle.session.specs.declared.run_state.RunState.{RunState}
use Rattle.session.specs.declared.run_state.RunState.TheVariants as state
use Rattle.session.specs.declared.reply.Reply.{Reply}
use Rattle.session.specs.declared.reply.Reply.TheVariants as reply
use Rattle.book.specs.declared.report.Report.{Report}
use Rattle.session.specs.Commands.{Asked, add_module, add_graph, add_job, run, status, values, drop, quit, unknown}
use Rattle.session.specs.Replies.{bye_line, drop_line, failed_line, file_line, memory_line, module_line, not_ended_line, not_waiting_line, run_line, taken_line, unknown_line, usage_line}

abbrev pub asked : Command → Asked
asked (command.AddModule name path) = add_module name.now path.now
asked (command.AddGraph name path) = add_graph name.now path.now
asked (command.AddJob name module_name graph_name settings) = add_job name.now module_name.now graph_name.now settings
asked (command.Run name) = run name.now
asked (command.Status name) = status name.now
asked (command.Values name) = values name.now
asked (command.Drop kind name) = drop kind name.now
asked command.Quit = quit
asked command.Unknown = unknown

abbrev pub reply_text : Reply → List ℕ
reply_text (reply.Text text) = string_bytes text
reply_text reply.Dropped = drop_line
reply_text reply.Bye = bye_line
reply_text reply.Usage = usage_line
reply_text reply.NameTaken = taken_line
reply_text reply.UnknownName = unknown_line
reply_text reply.File = file_line
reply_text reply.NotWaiting = not_waiting_line
reply_text reply.NotEnded = not_ended_line
reply_text reply.OutOfMemory = memory_line

-- this is the reply, or that memory ran out
abbrev pub IsToldOrNoMemory : (line told : List ℕ) → Type 0
IsToldOrNoMemory line told = (told ≡ line) ⊎ (told ≡ memory_line)

-- ---- replies

-- the reply has the size of the module
abbrev pub IsModuleLine : (name : List ℕ) → Module → (told : List ℕ) → Type 0
IsModuleLine name m told = (size : ℕ) × IsSizeOfCompute m size × (told ≡ module_line name size)

-- the state after a run that ended so, and the reply to it
abbrev pub state_of : Result Report JobFault → RunState
state_of (Ok report) = state.Ended report
state_of (Err fault) = state.Failed fault

abbrev pub run_end_line : (name : List ℕ) → Result Report JobFault → List ℕ
run_end_line name (Ok report) = run_line name report.ended
run_end_line name (Err fault) = failed_line fault

-- the reply is the text, or that memory ran out for it
abbrev pub IsReplyOf : {Z E : Type 0} → Result (String Z) E → Reply → Type 0
IsReplyOf (Ok text) told = reply_text told ≡ string_bytes text
IsReplyOf (Err error) told = told ≡ reply.OutOfMemory
