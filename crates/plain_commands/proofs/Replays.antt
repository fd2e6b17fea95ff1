-- What a simulation says of a replay.
use Rattle.std.proofs.Common.{◌≡◌, inl, inr, ℕ, List, Bool, true, Ok, subst}
use Rattle.superstep.specs.Job.{Work}
use Rattle.superstep.specs.Tasks.{trusts}
use Rattle.rollback.specs.Simulation.{IsRun, IsSimulated}
use Rattle.rollback.specs.declared.simulation.Step.{Step}
use Rattle.rollback.specs.declared.simulation.Trace.{Trace}
use Rattle.sources.specs.declared.fault.CommandFault.{CommandFault}
use Rattle.plain_commands.specs.Replays.{AreReplayLines, IsFaultOfReplay}

-- where there was memory to begin with
pub is_run : (job : Work) (steps : List Step) (trace : Trace) → IsSimulated job (trusts true) steps (Ok trace) → IsRun job (trusts true) steps (Ok trace)
is_run job steps trace (inl none) = absurd cc
is_run job steps trace (inr (inl none)) = absurd cc
is_run job steps trace (inr (inr ran)) = ran

-- steps that were lent are those that were read
pub lines_of_lent : (job : Work) (tells_units : Bool) (lent steps : List Step) (lines : List ℕ) → lent ≡ steps
    → AreReplayLines job tells_units lent lines → AreReplayLines job tells_units steps lines
lines_of_lent job tells_units lent steps lines same told = subst (λ (xs : List Step). AreReplayLines job tells_units xs lines) same told

pub fault_of_lent : (job : Work) (lent steps : List Step) (fault : CommandFault) → lent ≡ steps
    → IsFaultOfReplay job lent fault → IsFaultOfReplay job steps fault
fault_of_lent job lent steps fault same is = subst (λ (xs : List Step). IsFaultOfReplay job xs fault) same is
