-- A job, and its meaning.
use Rattle.std.specs.Prelude.{◌≡◌, ℕ, List, length}
use Rattle.wasm_ast.specs.declared.module.Module.{Module}
use Rattle.semantics.specs.Call.{Outcome}
use Rattle.semantics.specs.Outcomes.{AreOutcomes, Given}
use Rattle.graph.specs.Entry.{Entry, FitsLimits, IsProper, edge_count, parts_of}
use Rattle.job_state.specs.declared.settings.Settings.{Settings}

-- the model of a job: its module, its graph's parts, each as the list of its vertices, and its settings
pub record Work : Type 0 where
  pub «module» : Module
  pub parts : List (List Entry)
  pub settings : Settings

-- this is the job's graph
pub record IsGraphOf (work : Work) (graph : List Entry) : Type 0 where
  pub proper : IsProper graph
  pub limits : FitsLimits graph
  pub parts : work.parts ≡ parts_of work.settings.parts graph

-- The meaning of a job: its graph, and the one function that gives the outcomes of its module's calls.
pub record Meaning (work : Work) : Type 0 where
  pub graph : List Entry
  pub is_graph : IsGraphOf work graph
  pub outcomes : Given → Outcome
  pub are : AreOutcomes work.«module» outcomes

-- the job has a graph
abbrev pub HasGraph : Work → Type 0
HasGraph work = (graph : List Entry) × IsGraphOf work graph

-- this is the number of the graph's vertices
abbrev pub IsCount : Work → ℕ → Type 0
IsCount work count = (graph : List Entry) → IsGraphOf work graph → count ≡ length graph

-- this is the number of the graph's edges
abbrev pub IsEdgeCount : Work → ℕ → Type 0
IsEdgeCount work count = (graph : List Entry) → IsGraphOf work graph → count ≡ edge_count graph
