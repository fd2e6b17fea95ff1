-- The contents of a job.
use Rattle.std.specs.Prelude.{◌≡◌, ℕ, List, length, map, None}
use Rattle.wasm_ast.specs.declared.module.Module.{Module}
use Rattle.graph.specs.Entry.{Entry, ids}
use Rattle.graph.specs.declared.vertex.Vertex.{Vertex}
use Rattle.job_state.specs.declared.settings.Settings.{Settings}
use Rattle.superstep.specs.Job.{IsGraphOf}
use Rattle.job_state.specs.Settings.{first_bad}

-- the parts are those of a graph with `count` vertices, and `numbers` has the ids of each part's vertices
pub record IsOpen (m : Module) (parts : List (List Entry)) (numbers : List (List ℕ)) (settings : Settings) (count : ℕ) : Type 0 where
  pub good : first_bad settings ≡ None
  pub graph : List Entry
  pub is_graph : IsGraphOf (record { «module» = m; parts = parts; settings = settings }) graph
  pub counted : count ≡ length graph
  pub numbered : numbers ≡ map ids parts

-- the number of edges from a vertex
abbrev pub edges_at : Vertex → ℕ
edges_at vertex = length vertex.edges.items
