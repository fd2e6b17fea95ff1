-- What is noted of a run, by what it ended with.
use Rattle.std.proofs.Common.{inl, inr, ◌⊎◌, ℕ, Bool, true, false, IfErr, List, Option, Some, None, Result, Ok, Err}
use Rattle.std.specs.Prelude.{String}
use Rattle.wasm_ast.specs.declared.module.Module.{Module}
use Rattle.job_state.specs.declared.fault.JobFault.{JobFault}
use Rattle.superstep.specs.Job.{Work}
use Rattle.requests.specs.declared.request.JobRequest.{JobRequest}
use Rattle.requests.specs.declared.request.ModuleRequest.{ModuleRequest}
use Rattle.requests.specs.declared.request.RunRequest.{RunRequest}
use Rattle.sources.specs.declared.fault.CommandFault.{CommandFault}
use Rattle.sources.specs.declared.fault.CommandFault.TheVariants as command
use Rattle.sources.specs.Disk.{Disk}
use Rattle.wat_asm.specs.Paths.{is_text_path}
use Rattle.call_lines.specs.OutputLines.{IfText}
use Rattle.sources.specs.Source.{RefusesLoad, RefusesModule}
use Rattle.plain_commands.specs.Keeping.{IsNoFolder, IsNotReady}
use Rattle.plain_commands.specs.Notes.{NotesEnd, NotesFault, NotesOnly}
use Rattle.plain_commands.specs.Sizes.{IsNotAdmitted, RefusesSize}
use Rattle.plain_commands.specs.declared.noting.RunNotes.{RunNotes}
use Rattle.plain_commands.specs.Opening.{IsJobAt, IsUnopened}
use Rattle.run_command.specs.Running.{NotesFailedRun, NotesOnlyRun, NotesRun}

-- ---- a job that did not begin came to no fault of its own

no_module : (is_text : Bool) (content : List ℕ) (fault : JobFault) → RefusesModule is_text content (command.Job fault) → ⊥
no_module true content fault refused = refused
no_module false content fault refused = refused

no_load : (is_text : Bool) (content : List ℕ) (fault : JobFault) → RefusesLoad is_text content (command.Job fault) → ⊥
no_load is_text content fault (inl refused) = no_module is_text content fault refused
no_load is_text content fault (inr (m, means, refused)) = refused

no_size : (most : Option ℕ) (m : Module) (fault : JobFault) → RefusesSize most m (command.Job fault) → ⊥
no_size None m fault refused = refused
no_size (Some most) m fault refused = refused

not_admitted : (disk : Disk) (asked : ModuleRequest) (fault : JobFault) → IsNotAdmitted disk asked (command.Job fault) → ⊥
not_admitted disk asked fault (inl (inl unread)) = unread
not_admitted disk asked fault (inl (inr (content, held, refused))) = no_load (is_text_path asked.path.now) content fault refused
not_admitted disk asked fault (inr (m, loaded, refused)) = no_size asked.max_size m fault refused

not_opened : (disk : Disk) (asked : JobRequest) (fault : JobFault) → IsUnopened disk asked (command.Job fault) → ⊥
not_opened disk asked fault (inl refused) = not_admitted disk asked.«module» fault refused
not_opened disk asked fault (inr (m, admitted, inl (inl unread))) = unread
not_opened disk asked fault (inr (m, admitted, inl (inr (text, held, refused)))) = refused
not_opened disk asked fault (inr (m, admitted, inr (graph, read, refused))) = refused

not_kept : (disk : Disk) (asked : RunRequest) (folder : List ℕ) (fault : JobFault)
    → IsNotReady disk asked (command.Job fault) ⊎ IsNoFolder folder (command.Job fault) → ⊥
not_kept disk asked folder fault (inl (inl (inl unread))) = unread
not_kept disk asked folder fault (inl (inl (inr unread))) = unread
not_kept disk asked folder fault (inl (inr refused)) = refused
not_kept disk asked folder fault (inr refused) = refused

-- so nothing has to be noted
pub unopened_noted : (disk : Disk) (asked : RunRequest) (notes : RunNotes) (fault : CommandFault) → IsUnopened disk asked.job fault
    → NotesFailedRun disk asked notes fault
unopened_noted disk asked notes (command.Job fault) is = absurd (not_opened disk asked.job fault is)
unopened_noted disk asked notes fault is = tt

pub unkept_noted : (disk : Disk) (asked : RunRequest) (folder : List ℕ) (job : Work) (notes : RunNotes) (fault : CommandFault)
    → IsNotReady disk asked fault ⊎ IsNoFolder folder fault → NotesFault job notes fault
unkept_noted disk asked folder job notes (command.Job fault) is = absurd (not_kept disk asked folder fault is)
unkept_noted disk asked folder job notes fault is = tt

-- ---- a job that began

pub only_noted : (disk : Disk) (asked : RunRequest) (job : Work) (before after : RunNotes) → IsJobAt disk asked.job job
    → NotesOnly job before after → NotesOnlyRun disk asked before after
only_noted disk asked job before after is (inl same) = inl same
only_noted disk asked job before after is (inr noted) = inr (job, is, noted)

pub end_noted : {Z E : Type 0} (disk : Disk) (asked : RunRequest) (job : Work) (notes : RunNotes) (answer : Result (String Z) E)
    → IsJobAt disk asked.job job → IfText answer (NotesEnd job asked.job.tells_units notes) → IfText answer (NotesRun disk asked notes)
end_noted disk asked job notes (Ok text) is noted = (job, is, noted)
end_noted disk asked job notes (Err fault) is noted = tt

own_fault : (disk : Disk) (asked : RunRequest) (job : Work) (notes : RunNotes) (fault : CommandFault) → IsJobAt disk asked.job job
    → NotesFault job notes fault → NotesFailedRun disk asked notes fault
own_fault disk asked job notes (command.Job fault) is noted = (job, is, noted)
own_fault disk asked job notes fault is noted = tt

pub fault_noted : {A : Type 0} (disk : Disk) (asked : RunRequest) (job : Work) (notes : RunNotes) (answer : Result A CommandFault)
    → IsJobAt disk asked.job job → IfErr answer (NotesFault job notes) → IfErr answer (NotesFailedRun disk asked notes)
fault_noted disk asked job notes (Ok text) is noted = tt
fault_noted disk asked job notes (Err fault) is noted = own_fault disk asked job notes fault is noted
