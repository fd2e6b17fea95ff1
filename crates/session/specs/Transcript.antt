-- The replies of a session to its lines. They depend on what files may hold and on how runs may end.
use Rattle.std.specs.Prelude.{◌≡◌, ◌≢◌, ◌⊎◌, ℕ, Bool, true, false, List, [], ◌∷◌, ◌++◌, length, Option, Some, None, Ok, Err, is_some, MatchBool}
use Rattle.wasm_ast.specs.declared.module.Module.{Module}
use Rattle.verified.specs.Facts.{IsSizeOfCompute}
use Rattle.graph.specs.Entry.{Entry, edge_count}
use Rattle.job_state.specs.declared.settings.Settings.{Settings}
use Rattle.job_state.specs.declared.fault.JobFault.{JobFault}
use Rattle.superstep.specs.Ending.{IsEndOf}
use Rattle.sources.specs.declared.fault.CommandFault.{CommandFault}
use Rattle.sources.specs.Disk.{Disk}
use Rattle.sources.specs.Source.{RefusesLoad}
use Rattle.sources.specs.Jobs.{IsJobOf, RefusesSettings}
use Rattle.sources.specs.Reading.{IsLoadedAt, IsNoGraphAt, IsReadAt, IsRefusedAt}
use Rattle.session.specs.declared.command.Kind.{Kind}
use Rattle.session.specs.declared.command.Kind.TheVariants as kind
use Rattle.book.specs.declared.report.Report.{Report}
use Rattle.session.specs.declared.run_state.RunState.TheVariants as state
use Rattle.session.specs.declared.held_job.HeldJob.{HeldJob}
use Rattle.session.specs.Commands.{Asked, add_module, add_graph, add_job, run, status, values, drop, quit, unknown, is_quit}
use Rattle.session.specs.Runs.{Runs}
use Rattle.session.specs.Maps.{Maps, with_graph, with_job, with_module}
use Rattle.session.specs.Replies.{bye_line, drop_line, failed_line, graph_line, job_line, memory_line, module_line, not_ended_line, not_waiting_line, refusal_line, run_line, status_line, taken_line, unknown_line, usage_line, values_text}

-- ---- commands that are executed: the reply, and what is held afterwards

-- The module in a file gets a name, and its size is reported.
pub record AddsModule (disk : Disk) (maps : Maps) (name path reply : List ℕ) (after : Maps) : Type 0 where
  pub free : maps.modules name ≡ None
  pub m : Module
  pub loaded : IsLoadedAt disk path m
  pub size : ℕ
  pub has_size : IsSizeOfCompute m size
  pub told : reply ≡ module_line name size
  pub added : after ≡ with_module name (Some m) maps

-- The graph in a file gets a name, and the number of its vertices and edges is reported.
pub record AddsGraph (disk : Disk) (maps : Maps) (name path reply : List ℕ) (after : Maps) : Type 0 where
  pub free : maps.graphs name ≡ None
  pub graph : List Entry
  pub read : IsReadAt disk path graph
  pub told : reply ≡ graph_line name (length graph) (edge_count graph)
  pub added : after ≡ with_graph name (Some graph) maps

-- A job of a module over a graph gets a name, and waits.
pub record AddsJob (maps : Maps) (name module_name graph_name : List ℕ) (settings : Settings) (reply : List ℕ)
    (after : Maps) : Type 0 where
  pub free : maps.jobs name ≡ None
  pub m : Module
  pub has_module : maps.modules module_name ≡ Some m
  pub graph : List Entry
  pub has_graph : maps.graphs graph_name ≡ Some graph
  pub held : HeldJob
  pub is_job : IsJobOf m graph settings held.job
  pub waits : held.state ≡ state.Waiting
  pub told : reply ≡ job_line name
  pub added : after ≡ with_job name (Some held) maps

-- A job that waits is run, and ends as the plain run on one machine does.
pub record EndsJob (runs : Runs) (maps : Maps) (name reply : List ℕ) (after : Maps) : Type 0 where
  pub held : HeldJob
  pub is_held : maps.jobs name ≡ Some held
  pub waits : held.state ≡ state.Waiting
  pub report : Report
  pub may_end : runs.may_end held.job (Ok report)
  pub ends : IsEndOf held.job report.ended
  pub told : reply ≡ run_line name report.ended
  pub next : HeldJob
  pub same : next.job ≡ held.job
  pub ended : next.state ≡ state.Ended report
  pub kept : after ≡ with_job name (Some next) maps

-- A job that waits is run, and ends with a fault.
pub record FailsJob (runs : Runs) (maps : Maps) (name reply : List ℕ) (after : Maps) : Type 0 where
  pub held : HeldJob
  pub is_held : maps.jobs name ≡ Some held
  pub waits : held.state ≡ state.Waiting
  pub fault : JobFault
  pub may_end : runs.may_end held.job (Err fault)
  pub told : reply ≡ failed_line fault
  pub next : HeldJob
  pub same : next.job ≡ held.job
  pub ended : next.state ≡ state.Failed fault
  pub kept : after ≡ with_job name (Some next) maps

-- The state of a job is reported.
pub record ReportsStatus (maps : Maps) (name reply : List ℕ) : Type 0 where
  pub held : HeldJob
  pub is_held : maps.jobs name ≡ Some held
  pub told : reply ≡ status_line name held.state

-- The values that a job ended with are reported. They are those of the plain run on one machine.
pub record ReportsValues (maps : Maps) (name reply : List ℕ) : Type 0 where
  pub held : HeldJob
  pub is_held : maps.jobs name ≡ Some held
  pub report : Report
  pub ended : held.state ≡ state.Ended report
  pub ends : IsEndOf held.job report.ended
  pub told : reply ≡ values_text report.ended

-- whether something of this kind has the name
abbrev pub holds : Maps → Kind → List ℕ → Bool
holds maps kind.Module name = is_some (maps.modules name)
holds maps kind.Graph name = is_some (maps.graphs name)
holds maps kind.Job name = is_some (maps.jobs name)

abbrev pub without : Kind → List ℕ → Maps → Maps
without kind.Module name maps = with_module name None maps
without kind.Graph name maps = with_graph name None maps
without kind.Job name maps = with_job name None maps

-- The name is removed, with what it names.
pub record Drops (maps : Maps) (kind : Kind) (name reply : List ℕ) (after : Maps) : Type 0 where
  pub held : holds maps kind name ≡ true
  pub told : reply ≡ drop_line
  pub dropped : after ≡ without kind name maps

-- ---- commands that are refused: the reply

pub record IsTaken {X : Type 0} (found : Option X) (reply : List ℕ) : Type 0 where
  pub taken : is_some found ≡ true
  pub told : reply ≡ taken_line

pub record IsUnknown {X : Type 0} (found : Option X) (reply : List ℕ) : Type 0 where
  pub none : found ≡ None
  pub told : reply ≡ unknown_line

-- The reply reports a fault for which there is this cause.
pub record ReportsFault (Cause : CommandFault → Type 0) (reply : List ℕ) : Type 0 where
  pub fault : CommandFault
  pub because : Cause fault
  pub told : reply ≡ refusal_line fault

-- the name is taken; or it is free, and the file gives no module
abbrev pub NoModule : Disk → Maps → (name path reply : List ℕ) → Type 0
NoModule disk maps name path reply =
    IsTaken (maps.modules name) reply
    ⊎ ((maps.modules name ≡ None) × ReportsFault (IsRefusedAt disk path RefusesLoad) reply)

-- the name is taken; or it is free, and the file gives no graph
abbrev pub NoGraph : Disk → Maps → (name path reply : List ℕ) → Type 0
NoGraph disk maps name path reply =
    IsTaken (maps.graphs name) reply ⊎ ((maps.graphs name ≡ None) × ReportsFault (IsNoGraphAt disk path) reply)

-- The name is taken; or it is free, and the module or the graph does not exist; or both exist, and a setting is out of its
-- range.
abbrev pub NoJob : Maps → (name module_name graph_name : List ℕ) → Settings → (reply : List ℕ) → Type 0
NoJob maps name module_name graph_name settings reply =
    IsTaken (maps.jobs name) reply
    ⊎ ((maps.jobs name ≡ None) × IsUnknown (maps.modules module_name) reply)
    ⊎ ((maps.jobs name ≡ None) × IsUnknown (maps.graphs graph_name) reply)
    ⊎ ((maps.jobs name ≡ None) × (is_some (maps.modules module_name) ≡ true) × (is_some (maps.graphs graph_name) ≡ true)
    × ReportsFault (RefusesSettings settings) reply)

-- The job ran before.
pub record HasRun (maps : Maps) (name reply : List ℕ) : Type 0 where
  pub held : HeldJob
  pub is_held : maps.jobs name ≡ Some held
  pub ran : held.state ≢ state.Waiting
  pub told : reply ≡ not_waiting_line

-- The job has no values.
pub record HasNoAnswer (maps : Maps) (name reply : List ℕ) : Type 0 where
  pub held : HeldJob
  pub is_held : maps.jobs name ≡ Some held
  pub none : (report : Report) → held.state ≢ state.Ended report
  pub told : reply ≡ not_ended_line

abbrev pub NotDropped : Maps → Kind → (name reply : List ℕ) → Type 0
NotDropped maps kind name reply = (holds maps kind name ≡ false) × (reply ≡ unknown_line)

-- ---- all commands

-- the command is executed, or it is refused or runs out of memory, and then nothing changes
abbrev pub OrRefused : (Done Refused : Type 0) → Maps → (reply : List ℕ) → (after : Maps) → Type 0
OrRefused Done Refused maps reply after = Done ⊎ ((after ≡ maps) × (Refused ⊎ (reply ≡ memory_line)))

-- the reply to a command, and what is held afterwards
abbrev pub IsReplyTo : Disk → Runs → Maps → Asked → (reply : List ℕ) → (after : Maps) → Type 0
IsReplyTo disk runs maps (add_module name path) reply after =
    OrRefused (AddsModule disk maps name path reply after) (NoModule disk maps name path reply) maps reply after
IsReplyTo disk runs maps (add_graph name path) reply after =
    OrRefused (AddsGraph disk maps name path reply after) (NoGraph disk maps name path reply) maps reply after
IsReplyTo disk runs maps (add_job name module_name graph_name settings) reply after =
    OrRefused (AddsJob maps name module_name graph_name settings reply after)
    (NoJob maps name module_name graph_name settings reply) maps reply after
IsReplyTo disk runs maps (run name) reply after =
    OrRefused (EndsJob runs maps name reply after ⊎ FailsJob runs maps name reply after)
    (IsUnknown (maps.jobs name) reply ⊎ HasRun maps name reply) maps reply after
IsReplyTo disk runs maps (status name) reply after =
    (after ≡ maps) × (ReportsStatus maps name reply ⊎ IsUnknown (maps.jobs name) reply ⊎ (reply ≡ memory_line))
IsReplyTo disk runs maps (values name) reply after =
    (after ≡ maps)
    × (ReportsValues maps name reply ⊎ IsUnknown (maps.jobs name) reply ⊎ HasNoAnswer maps name reply ⊎ (reply ≡ memory_line))
IsReplyTo disk runs maps (drop kind name) reply after =
    Drops maps kind name reply after ⊎ ((after ≡ maps) × NotDropped maps kind name reply)
IsReplyTo disk runs maps quit reply after = (after ≡ maps) × (reply ≡ bye_line)
IsReplyTo disk runs maps unknown reply after = (after ≡ maps) × (reply ≡ usage_line)

-- A command is answered, and the replies after that have this property, which depends on what is held then.
pub record Begins (disk : Disk) (runs : Runs) (maps : Maps) (asked : Asked) (told : List ℕ)
    (Goes : Maps → List ℕ → Type 0) : Type 0 where
  pub reply : List ℕ
  pub after : Maps
  pub answers : IsReplyTo disk runs maps asked reply after
  pub rest : List ℕ
  pub begins : told ≡ reply ++ rest
  pub goes : Goes after rest

-- The replies to these commands, one after another. There is none after `quit`.
abbrev pub Tells : Disk → Runs → Maps → List Asked → (told : List ℕ) → Type 0
Tells disk runs maps [] told = told ≡ []
Tells disk runs maps (asked ∷ more) told =
    Begins disk runs maps asked told (λ after rest. MatchBool (is_quit asked) (rest ≡ []) (Tells disk runs after more rest))

-- The same for commands without `quit`, and what is held after them.
abbrev pub Reaches : Disk → Runs → Maps → List Asked → (told : List ℕ) → (now : Maps) → Type 0
Reaches disk runs maps [] told now = (told ≡ []) × (now ≡ maps)
Reaches disk runs maps (asked ∷ more) told now =
    Begins disk runs maps asked told (λ after rest. (is_quit asked ≡ false) × Reaches disk runs after more rest now)
