-- What a run prints and notes, and why it is refused.
use Rattle.std.specs.Prelude.{◌≡◌, ℕ, ◌⊎◌, List, Option, Result, Err}
use Rattle.job_state.specs.declared.fault.JobFault.{JobFault}
use Rattle.superstep.specs.Job.{Work}
use Rattle.book.specs.declared.report.Report.{Report}
use Rattle.sources.specs.declared.fault.CommandFault.{CommandFault}
use Rattle.sources.specs.declared.fault.CommandFault.TheVariants as command
use Rattle.requests.specs.declared.request.RunRequest.{RunRequest}
use Rattle.run_views.specs.declared.loss.Loss.{Loss}
use Rattle.sources.specs.Disk.{Disk}
use Rattle.run_command.specs.Jobs.{AreRunLines, IsFaultOfKept}
use Rattle.run_views.specs.Loss.{NamesLoss, RefusesLoss}
use Rattle.plain_commands.specs.Notes.{HasNoted, NotesEnd}
use Rattle.plain_commands.specs.declared.noting.RunNotes.{RunNotes}
use Rattle.plain_commands.specs.Opening.{IsJobAt, IsUnopened}
use Rattle.plain_commands.specs.Keeping.{IsNotReady}

-- The text of the lost worker, if there is one, is right, and the lines of what the job ends with are printed.
pub record PrintsRun (disk : Disk) (asked : RunRequest) (told : List ℕ) : Type 0 where
  pub loss : Option Loss
  pub named : NamesLoss asked.lose loss
  pub job : Work
  pub is_job : IsJobAt disk asked.job job
  pub lines : AreRunLines job asked.keep loss asked.resume asked.job.tells_units told

-- the folder is not made ready, or the run came to a fault, or no file can be made in the folder
abbrev pub IsFaultOfKeeping : Disk → RunRequest → CommandFault → Type 0
IsFaultOfKeeping disk asked fault = IsNotReady disk asked fault ⊎ IsFaultOfKept asked.keep fault

-- why a run of which the worker that is lost is named tells nothing: there is no job, or no folder for its states, or it may not
-- go on with those that are there, or it ends by a fault
abbrev pub RefusesRun : Disk → RunRequest → CommandFault → Type 0
RefusesRun disk asked fault =
    IsUnopened disk asked.job fault ⊎ ((job : Work) × IsJobAt disk asked.job job × IsFaultOfKeeping disk asked fault)

-- why a run is refused: the text of the lost worker is wrong, or the run itself is refused
abbrev pub IsUnrun : Disk → RunRequest → CommandFault → Type 0
IsUnrun disk asked fault =
    RefusesLoss fault asked.lose ⊎ ((loss : Option Loss) × NamesLoss asked.lose loss × RefusesRun disk asked fault)

-- nothing is noted but what the job of the run ended with
abbrev pub NotesOnlyRun : Disk → RunRequest → (before after : RunNotes) → Type 0
NotesOnlyRun disk asked before after =
    (after ≡ before)
    ⊎ ((job : Work) × IsJobAt disk asked.job job × ((answer : Result Report JobFault) × HasNoted job answer after))

-- these are the lines of what the job of a run ended with, and that is noted
abbrev pub NotesRun : Disk → RunRequest → RunNotes → (lines : List ℕ) → Type 0
NotesRun disk asked notes lines = (job : Work) × IsJobAt disk asked.job job × NotesEnd job asked.job.tells_units notes lines

-- if the job of a run ended with a fault, that is noted
abbrev pub NotesFailedRun : Disk → RunRequest → RunNotes → CommandFault → Type 0
NotesFailedRun disk asked notes (command.Job fault) = (job : Work) × IsJobAt disk asked.job job × HasNoted job (Err fault) notes
NotesFailedRun disk asked notes _ = Unit {0}
