-- What one step of a command says of files, after another that wrote nothing.
use Rattle.std.proofs.Common.{inl, inr, ℕ, true, List}
use Rattle.sources.specs.declared.fault.CommandFault.{CommandFault}
use Rattle.sources.specs.Disk.{Disk, Stays}
use Rattle.sources.proofs.Disks.{holds_before, unread_before}
use Rattle.plain_commands.specs.Steps.{RefusesSteps}
use Rattle.plain_commands.specs.Causes.{IsNoStepsAt}

-- where no steps are found after a read, none were found before
pub no_steps_before : (before after : Disk) (path : List ℕ) → Stays before after → (fault : CommandFault)
    → IsNoStepsAt after path fault → IsNoStepsAt before path fault
no_steps_before before after path stays fault (inl unread) = inl (unread_before true before after path stays fault unread)
no_steps_before before after path stays fault (inr held) = inr (holds_before before after path (λ text. RefusesSteps text fault) stays held)
