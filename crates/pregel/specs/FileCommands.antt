-- What a command over files prints and writes.
use Rattle.std.specs.Prelude.{◌≡◌, ℕ, ◌⊎◌, Bool, true, false, List}
use Rattle.job_state.specs.declared.fault.JobFault.{JobFault}
use Rattle.sources.specs.declared.fault.CommandFault.{CommandFault}
use Rattle.sources.specs.declared.fault.CommandFault.TheVariants as command
use Rattle.requests.specs.declared.request.Request.{Request}
use Rattle.requests.specs.declared.request.Request.TheVariants as request
use Rattle.call_lines.specs.OutputLines.{line}
use Rattle.sources.specs.Disk.{Disk, Stays}
use Rattle.sources.specs.Refusal.{fault_text, status_of}
use Rattle.sources.specs.Source.{RefusesModule}
use Rattle.sources.specs.Reading.{IsRefusedAt}
use Rattle.conversions.specs.Importing.{IsNotImported, PrintsImport, TriesImport}
use Rattle.run_command.specs.Running.{IsUnrun, NotesFailedRun, NotesOnlyRun, NotesRun, PrintsRun}
use Rattle.plain_commands.specs.declared.noting.RunNotes.{RunNotes}
use Rattle.plain_commands.specs.Sizes.{IsNotAdmitted}
use Rattle.plain_commands.specs.Causes.{IsUncalled, IsUnreplayed}
use Rattle.conversions.specs.Causes.{IsNotUpgraded, IsUnassembled, IsUnfitted, StaysBeforeWriting}
use Rattle.plain_commands.specs.Outputs.{PrintsOutcome, PrintsReplay, PrintsBounds}
use Rattle.conversions.specs.Outputs.{PrintsLength, PrintsFitted, PrintsUpgraded, PrintsLayout, TriesSpelling, TriesFitted, TriesUpgraded}

-- ---- answers

abbrev pub Answered : (before after : Disk) → Request → List ℕ → Type 0
Answered before after (request.Call m input_path) told = PrintsOutcome before m input_path.now told
Answered before after (request.Run asked) told = PrintsRun before asked told
Answered before after (request.Replay asked steps_path) told = PrintsReplay before asked steps_path.now told
Answered before after (request.Upgrade path newer_path) told = PrintsUpgraded before after path.now newer_path.now told
Answered before after (request.Assemble module_path binary_path) told = PrintsLength before after module_path.now binary_path.now told
Answered before after (request.Fit module_path binary_path) told = PrintsFitted before after module_path.now binary_path.now told
Answered before after (request.Print module_path) told = PrintsLayout before module_path.now told
Answered before after (request.Verify m) told = PrintsBounds before m told
Answered before after (request.Import asked) told = PrintsImport before after asked told

-- ---- why a command is refused

abbrev pub IsCause : Disk → Request → CommandFault → Type 0
IsCause disk (request.Call m input_path) fault = IsUncalled disk m input_path.now fault
IsCause disk (request.Run asked) fault = IsUnrun disk asked fault
IsCause disk (request.Replay asked steps_path) fault = IsUnreplayed disk asked steps_path.now fault
IsCause disk (request.Upgrade path newer_path) fault = IsNotUpgraded disk path.now newer_path.now fault
IsCause disk (request.Assemble module_path binary_path) fault = IsUnassembled disk module_path.now binary_path.now fault
IsCause disk (request.Fit module_path binary_path) fault = IsUnfitted disk module_path.now binary_path.now fault
IsCause disk (request.Print module_path) fault = IsRefusedAt disk module_path.now RefusesModule fault
IsCause disk (request.Verify m) fault = IsNotAdmitted disk m fault
IsCause disk (request.Import asked) fault = IsNotImported disk asked fault

-- ---- what is written to files

-- whether the command may write a file
abbrev pub writes_file : Request → Bool
writes_file (request.Assemble module_path binary_path) = true
writes_file (request.Fit module_path binary_path) = true
writes_file (request.Upgrade path newer_path) = true
writes_file (request.Import asked) = true
writes_file asked = false

-- what a refused command may leave: the files as they were, or a file that it was to write
abbrev pub MayTry : (before after : Disk) → Request → Type 0
MayTry before after (request.Assemble module_path binary_path) =
    Stays before after ⊎ TriesSpelling before after module_path.now binary_path.now
MayTry before after (request.Fit module_path binary_path) =
    Stays before after ⊎ TriesFitted before after module_path.now binary_path.now
MayTry before after (request.Upgrade path newer_path) =
    Stays before after ⊎ TriesUpgraded before after path.now newer_path.now
MayTry before after (request.Import asked) = TriesImport before after asked
MayTry before after asked = Stays before after

-- ---- the output with each status of the process

-- A fault is printed for which there is a cause. If it was found before writing, the files are as they were. Otherwise they
-- hold at most a beginning of what was to be written.
pub record PrintsRefusal (before after : Disk) (asked : Request) (status : ℕ) (told : List ℕ) : Type 0 where
  pub fault : CommandFault
  pub because : IsCause before asked fault
  pub unwritten : StaysBeforeWriting before after fault
  pub tried : MayTry before after asked
  pub status_of_fault : status ≡ status_of fault
  pub line_of_fault : told ≡ line (fault_text fault)

-- the possible outputs of a command, each with its status: an answer with 0, or a refusal
abbrev pub MayPrint : (before after : Disk) → Request → ℕ → List ℕ → Type 0
MayPrint before after asked status told =
    ((status ≡ 0) × Answered before after asked told) ⊎ PrintsRefusal before after asked status told

-- ---- what is noted of a run

-- the same of a command, of which nothing is noted if it is no run
abbrev pub NotesOnlyAsked : Disk → Request → (before after : RunNotes) → Type 0
NotesOnlyAsked disk (request.Run asked) before after = NotesOnlyRun disk asked before after
NotesOnlyAsked disk asked before after = after ≡ before

-- the same of a command, which has to be a run
abbrev pub NotesAnswer : Disk → Request → RunNotes → (lines : List ℕ) → Type 0
NotesAnswer disk (request.Run asked) notes lines = NotesRun disk asked notes lines
NotesAnswer disk asked notes lines = ⊥

abbrev pub NotesRefusal : Disk → Request → RunNotes → CommandFault → Type 0
NotesRefusal disk (request.Run asked) notes fault = NotesFailedRun disk asked notes fault
NotesRefusal disk asked notes fault = ⊥

-- What was noted of a run that printed this. With status 0 these are the lines of what its job ended with, with status 3 it is the
-- line of the fault that the job ended with, and that is noted.
pub record NotesPrinted (disk : Disk) (asked : Request) (notes : RunNotes) (status : ℕ) (told : List ℕ) : Type 0 where
  pub ended : status ≡ 0 → NotesAnswer disk asked notes told
  pub failed : status ≡ 3
      → (fault : JobFault) × (told ≡ line (fault_text (command.Job fault))) × NotesRefusal disk asked notes (command.Job fault)
