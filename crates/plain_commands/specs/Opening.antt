-- The job of a module and a graph in two files, and why there is none.
use Rattle.std.specs.Prelude.{◌⊎◌, List}
use Rattle.wasm_ast.specs.declared.module.Module.{Module}
use Rattle.graph.specs.Entry.{Entry}
use Rattle.superstep.specs.Job.{Work}
use Rattle.sources.specs.declared.fault.CommandFault.{CommandFault}
use Rattle.requests.specs.declared.request.JobRequest.{JobRequest}
use Rattle.sources.specs.Disk.{Disk}
use Rattle.sources.specs.Reading.{IsNoGraphAt, IsReadAt}
use Rattle.sources.specs.Jobs.{IsJobOf, RefusesSettings}
use Rattle.plain_commands.specs.Sizes.{IsAdmitted, IsNotAdmitted}

-- it is the job of the module and the graph in two files
pub record IsJobAt (disk : Disk) (asked : JobRequest) (job : Work) : Type 0 where
  pub m : Module
  pub loaded : IsAdmitted disk asked.«module» m
  pub graph : List Entry
  pub read : IsReadAt disk asked.graph.now graph
  pub is_job : IsJobOf m graph asked.settings job

-- why a module that is loaded has no job: there is no graph, or a setting is out of its range
abbrev pub RefusesJob : Disk → JobRequest → CommandFault → Type 0
RefusesJob disk asked fault =
    IsNoGraphAt disk asked.graph.now fault
    ⊎ ((graph : List Entry) × IsReadAt disk asked.graph.now graph × RefusesSettings asked.settings fault)

-- why there is no job of the module and the graph in two files
abbrev pub IsUnopened : Disk → JobRequest → CommandFault → Type 0
IsUnopened disk asked fault =
    IsNotAdmitted disk asked.«module» fault
    ⊎ ((m : Module) × IsAdmitted disk asked.«module» m × RefusesJob disk asked fault)
