use Rattle.std.proofs.Common.{codes}
use Rattle.command_line.proofs.Entries.{lacking, none_found, text_given}
use Rattle.command_line.proofs.command_line.module_asked.Goals.{in_default-via-in-Some+in_default, in_default-via-in_default}
use Rattle.command_line.proofs.command_line.module_asked.Goals as goal

pub returns-in-Some-Some : goal.returns-in-Some-Some
returns-in-Some-Some c = record {
  path = text_given c.args.entries.now (codes "module") c.get_str.result c.in-Some-Some.path c.get_str.ensures c.in-Some-Some.is-0;
  max_size = c.in-Some-Some.ensures';
}

pub returns-in_default : goal.returns-in_default
returns-in_default c = λ asked asks. elim c.in_default.branch [
  | in_default-via-in-Some+in_default w ↦ none_found _ c.bound_of.result c.bound_of.ensures w.in_default.is-1 asked.max_size asks.max_size
  | in_default-via-in_default w ↦ lacking c.args.entries.now (codes "module") c.get_str.result c.get_str.ensures w.in_default.is-0 asked.path asks.path
]
