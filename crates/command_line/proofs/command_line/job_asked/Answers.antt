use Rattle.std.proofs.Common.{codes}
use Rattle.command_line.proofs.Entries.{lacking, none_found, text_given}
use Rattle.command_line.proofs.command_line.job_asked.Goals.{in_default-via-in-Some+in-Some+in_default, in_default-via-in-Some+in_default, in_default-via-in_default}
use Rattle.command_line.proofs.command_line.job_asked.Goals as goal

pub returns-in-Some-Some-Some : goal.returns-in-Some-Some-Some
returns-in-Some-Some-Some c = record {
  module_file = c.in-Some-Some-Some.ensures;
  graph_path = text_given c.args.entries.now (codes "graph") c.get_str.result c.in-Some-Some-Some.graph c.get_str.ensures c.in-Some-Some-Some.is-1;
  settings = c.in-Some-Some-Some.ensures'';
  units = c.is_set.ensures;
}

pub returns-in_default : goal.returns-in_default
returns-in_default c = λ job asks. elim c.in_default.branch [
  | in_default-via-in-Some+in-Some+in_default w ↦ none_found _ c.settings_of.result c.settings_of.ensures w.in_default.is-2 job.settings asks.settings
  | in_default-via-in-Some+in_default w ↦ lacking c.args.entries.now (codes "graph") c.get_str.result c.get_str.ensures w.in_default.is-1 job.graph asks.graph_path
  | in_default-via-in_default w ↦ none_found _ c.module_asked.result c.module_asked.ensures w.in_default.is-0 job.«module» asks.module_file
]
