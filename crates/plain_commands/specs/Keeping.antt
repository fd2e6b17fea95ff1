-- Why the folder of a run is not made ready for its states.
use Rattle.std.specs.Prelude.{◌≡◌, ◌⊎◌, true, false, ℕ, List}
use Rattle.sources.specs.declared.fault.CommandFault.{CommandFault}
use Rattle.sources.specs.declared.fault.CommandFault.TheVariants as command
use Rattle.requests.specs.declared.request.JobRequest.{JobRequest}
use Rattle.requests.specs.declared.request.RunRequest.{RunRequest}
use Rattle.sources.specs.Disk.{Disk}
use Rattle.sources.specs.Reading.{IsUnread}

-- the states in the folder are none with which this job may go on
abbrev pub IsNotResumed : RunRequest → CommandFault → Type 0
IsNotResumed asked command.Resume = asked.resume ≡ true
IsNotResumed asked _ = ⊥

-- a file that tells which job it is can't be read again
abbrev pub IsUnidentified : Disk → JobRequest → CommandFault → Type 0
IsUnidentified disk asked fault =
    IsUnread false disk asked.«module».path.now fault ⊎ IsUnread false disk asked.graph.now fault

-- why a folder is not made ready for the states of a job: the job is not identified, or it may not go on with what is there
abbrev pub IsNotReady : Disk → RunRequest → CommandFault → Type 0
IsNotReady disk asked fault = IsUnidentified disk asked.job fault ⊎ IsNotResumed asked fault

-- no file can be made in the folder, or there is no memory to try it
abbrev pub IsNoFolder : (folder : List ℕ) → CommandFault → Type 0
IsNoFolder folder (command.Unwritable refused) = refused.now ≡ folder
IsNoFolder folder command.OutOfMemory = Unit {0}
IsNoFolder folder _ = ⊥
