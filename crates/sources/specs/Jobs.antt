-- The graph that a text means, the job of a module over it, and the reasons why there is none.
use Rattle.std.specs.Prelude.{◌≡◌, ℕ, List, Some, None}
use Rattle.wasm_ast.specs.declared.module.Module.{Module}
use Rattle.graph.specs.Entry.{Entry}
use Rattle.graph.specs.Graph.{IsGraphText, IsWithinLimits}
use Rattle.graph.specs.declared.fault.GraphFault.TheVariants as graph_fault
use Rattle.job_state.specs.declared.settings.Settings.{Settings}
use Rattle.job_state.specs.Settings.{first_bad}
use Rattle.superstep.specs.Job.{IsGraphOf, Work}
use Rattle.sources.specs.declared.fault.CommandFault.{CommandFault}
use Rattle.sources.specs.declared.fault.CommandFault.TheVariants as command

-- the text means this graph, which is within the limits
pub record IsGraphIn (text : List ℕ) (graph : List Entry) : Type 0 where
  pub means : IsGraphText text graph
  pub within : IsWithinLimits text

-- this is the job of the module over the graph with these settings, each of which is in its range
pub record IsJobOf (m : Module) (graph : List Entry) (settings : Settings) (job : Work) : Type 0 where
  pub calls : job.«module» ≡ m
  pub over : IsGraphOf job graph
  pub how : job.settings ≡ settings
  pub good : first_bad settings ≡ None

-- ---- refusals

-- the fault is a true reason why the text gives no graph; running out of memory needs no reason
abbrev pub RefusesGraph : List ℕ → CommandFault → Type 0
RefusesGraph text (command.Graph fault) = (graph : List Entry) → IsGraphIn text graph → fault ≡ graph_fault.OutOfMemory
RefusesGraph text _ = ⊥

-- the fault is a true reason why the settings give no job: it names the first setting that is out of its range
abbrev pub RefusesSettings : Settings → CommandFault → Type 0
RefusesSettings settings (command.Settings setting) = first_bad settings ≡ Some setting
RefusesSettings settings command.OutOfMemory = first_bad settings ≡ None
RefusesSettings settings _ = ⊥
