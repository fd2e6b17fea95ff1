-- The steps of an answer.
use Rattle.std.specs.Prelude.{◌≡◌, ◌≢◌, ◌⊎◌, ℕ, Bool, true, false, List, Option, Some}
use Rattle.superstep.specs.Job.{Work}
use Rattle.superstep.specs.Ending.{IsEndOf}
use Rattle.session.specs.declared.run_state.RunState.{RunState}
use Rattle.session.specs.declared.run_state.RunState.TheVariants as state
use Rattle.session.specs.declared.held_job.HeldJob.{HeldJob}
use Rattle.book.specs.declared.report.Report.{Report}
use Rattle.session.specs.Held.{IsSound}
use Rattle.session.specs.Maps.{put}
use Rattle.session.specs.Replies.{job_line, memory_line, not_ended_line, values_text}
use Rattle.session.specs.Runs.{Runs}

-- runs of which none ends; a command that runs nothing is answered in the same way over all runs
abbrev pub never : Runs
never = record { may_end = λ _ _. ⊥ }

-- The value gets the name, and the reply is this; or memory runs out, and nothing changes.
abbrev pub GivesName : {X : Type 0} → (Told : List ℕ → Type 0) → (name : List ℕ) → X → (before after : List ℕ → Option X)
    → (reply : List ℕ) → Type 0
GivesName Told name value before after reply =
    ((after ≡ put name (Some value) before) × Told reply) ⊎ ((after ≡ before) × (reply ≡ memory_line))

-- a job that waits
pub record IsWaitingJob (job : Work) (held : HeldJob) : Type 0 where
  pub same : held.job ≡ job
  pub waits : held.state ≡ state.Waiting

abbrev pub NamesJob : (name : List ℕ) → Work → (before after : List ℕ → Option HeldJob) → (reply : List ℕ) → Type 0
NamesJob name job before after reply =
    (held : HeldJob) × IsWaitingJob job held × GivesName (λ told. told ≡ job_line name) name held before after reply

abbrev pub is_waiting : RunState → Bool
is_waiting state.Waiting = true
is_waiting _ = false

-- this may be the state of the job that has the name
abbrev pub IsSoundAt : (List ℕ → Option HeldJob) → (name : List ℕ) → RunState → Type 0
IsSoundAt jobs name end = (held : HeldJob) → jobs name ≡ Some held → IsSound held.job end

-- the job that has the name gets this state, and nothing else changes
pub record EndsSo (before after : List ℕ → Option HeldJob) (name : List ℕ) (end : RunState) (held : HeldJob) : Type 0 where
  pub next : HeldJob
  pub same : next.job ≡ held.job
  pub ended : next.state ≡ end
  pub kept : after ≡ put name (Some next) before

abbrev pub IsSet : (before after : List ℕ → Option HeldJob) → (name : List ℕ) → RunState → Type 0
IsSet before after name end = (held : HeldJob) → before name ≡ Some held → EndsSo before after name end held

-- the values that a job ended with are reported, or that it has none, or that memory ran out
pub record ReportsEnded (held : HeldJob) (reply : List ℕ) : Type 0 where
  pub report : Report
  pub ended : held.state ≡ state.Ended report
  pub ends : IsEndOf held.job report.ended
  pub told : reply ≡ values_text report.ended

pub record ReportsNone (held : HeldJob) (reply : List ℕ) : Type 0 where
  pub none : (report : Report) → held.state ≢ state.Ended report
  pub told : reply ≡ not_ended_line

abbrev pub ReportsHeldValues : HeldJob → (reply : List ℕ) → Type 0
ReportsHeldValues held reply = ReportsEnded held reply ⊎ ReportsNone held reply ⊎ (reply ≡ memory_line)
