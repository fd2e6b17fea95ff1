-- Why a folder is not made ready for the states of a job.
use Rattle.std.proofs.Common.{inl, inr, ◌≡◌, ◌⊎◌, false, true, List, ℕ, subst, sym}
use Rattle.requests.specs.declared.request.JobRequest.{JobRequest}
use Rattle.requests.specs.declared.request.RunRequest.{RunRequest}
use Rattle.sources.specs.declared.fault.CommandFault.{CommandFault}
use Rattle.sources.specs.declared.fault.CommandFault.TheVariants.{Resume}
use Rattle.sources.specs.Disk.{Disk, Stays}
use Rattle.sources.proofs.Disks.{unread_before}
use Rattle.plain_commands.specs.Keeping.{IsNoFolder, IsNotReady, IsNotResumed, IsUnidentified}

-- a job that is not identified after a read was not identified before
pub unidentified_before : (before after : Disk) (asked : JobRequest) → Stays before after → (fault : CommandFault)
    → IsUnidentified after asked fault → IsUnidentified before asked fault
unidentified_before before after asked stays fault (inl unread) = inl (unread_before false before after asked.«module».path.now stays fault unread)
unidentified_before before after asked stays fault (inr unread) = inr (unread_before false before after asked.graph.now stays fault unread)

-- what is not ready after a read was not ready before
pub not_ready_before : (before after : Disk) (asked : RunRequest) → Stays before after → (fault : CommandFault)
    → IsNotReady after asked fault → IsNotReady before asked fault
not_ready_before before after asked stays fault (inl is) = inl (unidentified_before before after asked.job stays fault is)
not_ready_before before after asked stays fault (inr is) = inr is

-- the job may not go on, as it was asked to
pub not_resumed : (disk : Disk) (asked : RunRequest) (fault : CommandFault) → fault ≡ Resume → asked.resume ≡ true → IsNotReady disk asked fault
not_resumed disk asked fault is asks = inr (subst (λ f. IsNotResumed asked f) (sym is) asks)

-- nor in a folder in which no file can be made
pub not_found : (disk : Disk) (asked : RunRequest) (folder : List ℕ) (fault : CommandFault) → asked.resume ≡ true
    → (fault ≡ Resume) ⊎ IsNoFolder folder fault → IsNotReady disk asked fault ⊎ IsNoFolder folder fault
not_found disk asked folder fault asks (inl is) = inl (not_resumed disk asked fault is asks)
not_found disk asked folder fault asks (inr is) = inr is
