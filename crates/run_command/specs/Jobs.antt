-- The lines that a job prints, and why there are none.
use denote.Bor.{Bor}
use Rattle.std.specs.Prelude.{◌≡◌, ◌⊎◌, ℕ, Bool, true, false, List, map, Option, Some, None}
use Rattle.std.specs.List.{range_with_len}
use Rattle.superstep.specs.declared.ending.JobEnd.{JobEnd}
use Rattle.superstep.specs.Job.{Meaning, Work}
use Rattle.superstep.specs.PlainRun.{Answer, IsAnswer, units_at}
use Rattle.book.specs.declared.report.Report.{Report}
use Rattle.coordinator.specs.JobAnswers.{IsRunFault}
use Rattle.run_views.specs.declared.loss.Loss.{Loss}
use Rattle.call_lines.specs.OutputLines.{ended_lines, job_lines}
use Rattle.sources.specs.declared.fault.CommandFault.{CommandFault}
use Rattle.sources.specs.declared.fault.CommandFault.TheVariants as command
use Rattle.plain_commands.specs.Keeping.{IsNoFolder}

-- The lines are those of what the run on one machine ends with (Pregel 2010, 2).
pub record AreLinesOf (job : Work) (meaning : Meaning job) (tells_units : Bool) (lines : List ℕ) : Type 0 where
  pub answer : Answer
  pub ends : IsAnswer meaning.outcomes meaning.graph job.settings.limit answer
  pub printed : lines
      ≡ job_lines tells_units answer 0 (map (units_at meaning.outcomes meaning.graph) (range_with_len 0 answer.superstep))

abbrev pub AreJobLines : Work → (tells_units : Bool) → List ℕ → Type 0
AreJobLines job tells_units lines = (meaning : Meaning job) → AreLinesOf job meaning tells_units lines

-- the lines of what some job ends with
abbrev pub AreEndLines : (tells_units : Bool) → List ℕ → Type 0
AreEndLines tells_units lines = (ended : JobEnd) × (lines ≡ ended_lines tells_units ended)

-- The lines of what a run in threads ended with. If it ended in epoch 0, nothing was loaded, and they are those of the job's
-- answer.
pub record AreKeptLines (job : Work) (tells_units : Bool) (lines : List ℕ) : Type 0 where
  pub report : Report
  pub printed : lines ≡ ended_lines tells_units report.ended
  pub answer : report.epoch ≡ 0 → AreJobLines job tells_units lines

-- The lines of a run in threads. If states are kept in memory, they are those of the job's answer. If states are kept in a
-- folder, others may change its files. A run that resumes may begin with a load: its lines are those of some end. A run from
-- superstep 0 on loads nothing unless a worker is lost: its lines are those of the job's answer. If a worker is to be lost, they
-- are those of some end, and those of the answer if nothing was loaded.
abbrev pub AreRunLines : Work → (folder : Option (Bor (List ℕ))) → (loss : Option Loss) → (resumes tells_units : Bool) → List ℕ → Type 0
AreRunLines job None loss resumes tells_units lines = AreJobLines job tells_units lines
AreRunLines job (Some folder) loss true tells_units lines = AreEndLines tells_units lines
AreRunLines job (Some folder) None false tells_units lines = AreJobLines job tells_units lines
AreRunLines job (Some folder) (Some loss) false tells_units lines = AreKeptLines job tells_units lines

-- ---- refusals

-- the job ended with a fault of its own or of threads, or there is no memory for its lines
abbrev pub IsFaultOfRun : CommandFault → Type 0
IsFaultOfRun (command.Job fault) = IsRunFault fault
IsFaultOfRun command.OutOfMemory = Unit {0}
IsFaultOfRun _ = ⊥

-- the run ended with a fault, or no file can be made in the folder for its states
abbrev pub IsFaultOfKept : (folder : Option (Bor (List ℕ))) → CommandFault → Type 0
IsFaultOfKept None fault = IsFaultOfRun fault
IsFaultOfKept (Some folder) fault = IsNoFolder folder.now fault ⊎ IsFaultOfRun fault
