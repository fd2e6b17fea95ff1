-- What a replay of a job's steps prints, and why it prints nothing.
use Rattle.std.specs.Prelude.{◌≡◌, ℕ, Bool, true, List, ◌++◌, codes, Ok, Err}
use Rattle.std.specs.List.{flat_map}
use Rattle.std.specs.Fmt.{decimal}
use Rattle.superstep.specs.Job.{Work}
use Rattle.superstep.specs.Tasks.{trusts}
use Rattle.rollback.specs.Simulation.{IsCalm, IsRun, IsSimulated}
use Rattle.control.specs.declared.answer.Answer.{Answer}
use Rattle.control.specs.declared.answer.Answer.TheVariants.{Advanced, RolledBack, Stale, Taken}
use Rattle.control.specs.declared.answer.Answer.TheVariants as answer
use Rattle.book.specs.declared.report.Report.{Report}
use Rattle.rollback.specs.declared.simulation.Outcome.{Outcome}
use Rattle.rollback.specs.declared.simulation.Outcome.TheVariants as outcome
use Rattle.rollback.specs.declared.simulation.Step.{Step}
use Rattle.rollback.specs.declared.simulation.StepAnswer.{StepAnswer}
use Rattle.rollback.specs.declared.simulation.StepAnswer.TheVariants.{Handed, Idle, Said}
use Rattle.rollback.specs.declared.simulation.Trace.{Trace}
use Rattle.sources.specs.declared.fault.CommandFault.{CommandFault}
use Rattle.sources.specs.declared.fault.CommandFault.TheVariants as command
use Rattle.call_lines.specs.OutputLines.{ended_lines, line, numbered_lines}

-- ---- lines

-- what became of an event, with the superstep after it
abbrev pub said_line : Answer → List ℕ
said_line Taken = line (codes "taken")
said_line (Advanced superstep) = line (codes "advanced " ++ decimal superstep)
said_line (RolledBack superstep) = line (codes "rolledback " ++ decimal superstep)
said_line Stale = line (codes "stale")
said_line answer.Ended = line (codes "ended")

-- the answer to a step
abbrev pub answer_line : StepAnswer → List ℕ
answer_line Idle = line (codes "idle")
answer_line (Handed part) = line (codes "handed " ++ decimal part)
answer_line (Said answer) = said_line answer

abbrev pub counts_line : (epoch missed restarts : ℕ) → List ℕ
counts_line epoch missed restarts =
    line (codes "epoch " ++ decimal epoch ++ codes " missed " ++ decimal missed ++ codes " restarts " ++ decimal restarts)

-- what the job ended with, the counts of losses, and the units of each worker
abbrev pub report_lines : (tells_units : Bool) → Report → List ℕ
report_lines tells_units report =
    ended_lines tells_units report.ended
    ++ counts_line report.epoch report.missed report.restarts
    ++ numbered_lines (codes "spent") 0 report.spent.items

-- where the steps lead
abbrev pub replay_end_lines : (tells_units : Bool) → Outcome → List ℕ
replay_end_lines tells_units (outcome.Open superstep) = line (codes "open " ++ decimal superstep)
replay_end_lines tells_units (outcome.Ended report) = report_lines tells_units report

-- a line for each step, and where they lead
abbrev pub trace_lines : (tells_units : Bool) → Trace → List ℕ
trace_lines tells_units trace = flat_map answer_line trace.answers.items ++ replay_end_lines tells_units trace.outcome

-- ---- answers and refusals

-- The lines are those of the control model over these steps, with a Keep that is honest and never fails: its answer to each
-- step, and where the steps lead. A job that ends has the plain run's answer.
pub record AreReplayLines (job : Work) (tells_units : Bool) (steps : List Step) (lines : List ℕ) : Type 0 where
  pub trace : Trace
  pub ran : IsRun job (trusts true) steps (Ok trace)
  pub calm : IsCalm trace.outcome
  pub printed : lines ≡ trace_lines tells_units trace

-- the control model ends with this fault, or there is no memory to begin with, or none for the lines
abbrev pub IsFaultOfReplay : Work → List Step → CommandFault → Type 0
IsFaultOfReplay job steps (command.Job fault) = IsSimulated job (trusts true) steps (Err fault)
IsFaultOfReplay job steps command.OutOfMemory = Unit {0}
IsFaultOfReplay job steps _ = ⊥
