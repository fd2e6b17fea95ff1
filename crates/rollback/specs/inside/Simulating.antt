-- What simulating looks at.
use Rattle.std.specs.Prelude.{◌≡◌, ℕ, Bool, List, map, Option, None, option_map, replicate}
use Rattle.superstep.specs.Job.{Work}
use Rattle.job_state.specs.Stamps.{TaskStamp}
use Rattle.control.specs.declared.control.Out.{Out}
use Rattle.rollback.specs.declared.simulation.Step.{Step}
use Rattle.rollback.specs.declared.simulation.StepAnswer.{StepAnswer}
use Rattle.rollback.specs.declared.simulation.TaskRunner.{TaskRunner}
use Rattle.control.specs.Stamps.{task_out}
use Rattle.control.specs.Machine.{Machine}
use Rattle.rollback.specs.Simulation.{RanOver, Sim}

-- the tasks that are held, in numbers
abbrev pub stamps : List (Option TaskStamp) → List (Option Out)
stamps held = map (option_map task_out) held

abbrev pub sim_of : Machine → List (Option TaskStamp) → Sim
sim_of m held = record { machine = m; held = stamps held }

-- it does the tasks of this job
pub record IsRunnerOf (work : Work) (runner : TaskRunner) : Type 0 where
  pub job : work ≡ runner.job.now
  pub fits : runner.scratch ≡ runner.job.now.«module»

-- the model, where none of this many workers holds a task
abbrev pub with_none_held : ℕ → Machine → Sim
with_none_held workers m = record { machine = m; held = replicate workers None }

-- these are the answers to the steps, before which no worker held a task
pub record AreAnswersTo {K : Type 0} (over : Machine → Machine → K → K → Type 0) (work : Work) (honest : ℕ → Bool) (steps : List Step) (before after : Machine) (keep keep' : K) (answers : List StepAnswer) : Type 0 where
  pub held : List (Option Out)
  pub ran : RanOver over work honest steps (with_none_held work.settings.workers before) keep answers (record { machine = after; held = held }) keep'
