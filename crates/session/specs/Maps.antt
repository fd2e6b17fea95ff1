-- The things that a session holds, by name.
use Rattle.std.specs.Prelude.{ℕ, List, Option, None, if◌then◌else◌}
use Rattle.std.specs.Str.{bytes_eq}
use Rattle.wasm_ast.specs.declared.module.Module.{Module}
use Rattle.graph.specs.Entry.{Entry}
use Rattle.session.specs.declared.held_job.HeldJob.{HeldJob}

-- modules, graphs and jobs; each kind has its own names
pub record Maps : Type 0 where
  pub modules : List ℕ → Option Module
  pub graphs : List ℕ → Option (List Entry)
  pub jobs : List ℕ → Option HeldJob

-- nothing is held, as when a session begins
abbrev pub nothing : Maps
nothing = record { modules = λ name. None; graphs = λ name. None; jobs = λ name. None }

-- the map with this at the name, and unchanged at other names
abbrev pub put : {X : Type 0} → (name : List ℕ) → Option X → (List ℕ → Option X) → List ℕ → Option X
put name found map other = if bytes_eq name other then found else map other

abbrev pub with_module : List ℕ → Option Module → Maps → Maps
with_module name found maps = record maps { modules = put name found maps.modules }

abbrev pub with_graph : List ℕ → Option (List Entry) → Maps → Maps
with_graph name found maps = record maps { graphs = put name found maps.graphs }

abbrev pub with_job : List ℕ → Option HeldJob → Maps → Maps
with_job name found maps = record maps { jobs = put name found maps.jobs }
