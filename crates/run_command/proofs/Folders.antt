-- The lines of a run whose states are kept in a folder, and its faults.
use denote.Bor.{Bor}
use Rattle.std.proofs.Common.{inl, inr, ◌≡◌, ◌⊎◌, Bool, false, true, List, Option, None, Result, Some, ℕ, refl}
use Rattle.std.specs.Prelude.{String}
use Rattle.requests.specs.declared.request.RunRequest.{RunRequest}
use Rattle.sources.specs.declared.fault.CommandFault.{CommandFault}
use Rattle.sources.specs.Disk.{Disk, Stays}
use Rattle.call_lines.specs.OutputLines.{IfText}
use Rattle.superstep.specs.Job.{Work}
use Rattle.run_command.specs.Jobs.{AreEndLines, AreJobLines, AreKeptLines, AreRunLines}
use Rattle.run_views.specs.declared.loss.Loss.{Loss}
use Rattle.run_command.specs.Running.{IsFaultOfKeeping}
use Rattle.plain_commands.proofs.Folders.{not_ready_before}

pub keeping_before : (before after : Disk) (asked : RunRequest) → Stays before after → (fault : CommandFault)
    → IsFaultOfKeeping after asked fault → IsFaultOfKeeping before asked fault
keeping_before before after asked stays fault (inl is) = inl (not_ready_before before after asked stays fault is)
keeping_before before after asked stays fault (inr is) = inr is

pub nested : {A B C : Type 0} → A ⊎ B → A ⊎ (B ⊎ C)
nested (inl a) = inl a
nested (inr b) = inr (inl b)

-- the lines of a run whose states are kept in a folder
pub folder_lines : {Z E : Type 0} (job : Work) (folder : Bor (List ℕ)) (loss : Option Loss) (resumes tells_units : Bool) (answer : Result (String Z) E)
    → IfText answer (AreEndLines tells_units) → (resumes ≡ false → IfText answer (AreKeptLines job tells_units))
    → (resumes ≡ false → loss ≡ None → IfText answer (AreJobLines job tells_units))
    → IfText answer (AreRunLines job (Some folder) loss resumes tells_units)
folder_lines job folder loss true tells_units answer ends kept unlost = ends
folder_lines job folder None false tells_units answer ends kept unlost = unlost refl refl
folder_lines job folder (Some loss) false tells_units answer ends kept unlost = kept refl
