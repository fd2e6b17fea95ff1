-- Sessions that report the same values.
use Rattle.std.specs.Prelude.{◌≡◌, List, ℕ, Some}
use Rattle.wasm_ast.specs.declared.module.Module.{Module}
use Rattle.graph.specs.Entry.{Entry}
use Rattle.job_state.specs.declared.settings.Settings.{Settings}
use Rattle.sources.specs.Disk.{Disk}
use Rattle.sources.specs.Jobs.{IsJobOf}
use Rattle.session.specs.declared.held_job.HeldJob.{HeldJob}
use Rattle.session.specs.Commands.{Asked}
use Rattle.session.specs.Maps.{Maps, nothing}
use Rattle.session.specs.Runs.{Runs}
use Rattle.session.specs.Transcript.{Reaches, ReportsValues}

-- A session that began with nothing holds a job of this module over this graph, with these settings, and reports its
-- values.
pub record ReportsValuesOf (disk : Disk) (runs : Runs) (m : Module) (graph : List Entry) (settings : Settings) (told : List ℕ)
    : Type 0 where
  pub asked : List Asked
  pub before : List ℕ
  pub maps : Maps
  pub reaches : Reaches disk runs nothing asked before maps
  pub name : List ℕ
  pub held : HeldJob
  pub is_held : maps.jobs name ≡ Some held
  pub is_job : IsJobOf m graph settings held.job
  pub tells : ReportsValues maps name told

-- Two sessions report the same values of two jobs that have the same module, graph and limit. Earlier commands, other
-- things that they hold, the other settings and the ends of the runs do not matter.
abbrev pub HaveSameValues : (disk other_disk : Disk) → (runs other_runs : Runs) → Type 0
HaveSameValues disk other_disk runs other_runs =
    (m : Module) (graph : List Entry) (settings other_settings : Settings) (told again : List ℕ)
    → ReportsValuesOf disk runs m graph settings told → ReportsValuesOf other_disk other_runs m graph other_settings again
    → settings.limit ≡ other_settings.limit → told ≡ again
