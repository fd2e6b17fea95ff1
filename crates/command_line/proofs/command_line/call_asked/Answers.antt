use Rattle.std.proofs.Common.{codes, refl}
use Rattle.command_line.specs.inside.Matches.{rows_in}
use Rattle.command_line.proofs.Entries.{asks_call, lacking, none_found, text_given}
use Rattle.command_line.proofs.command_line.call_asked.Goals.{in_default-via-in-Some+in_default, in_default-via-in_default}
use Rattle.command_line.proofs.command_line.call_asked.Goals as goal

pub returns-in-Some-Some : goal.returns-in-Some-Some
returns-in-Some-Some c = (
  refl,
  c.in-Some-Some.ensures,
  text_given c.args.entries.now (codes "input") c.get_str.result c.in-Some-Some.input c.get_str.ensures c.in-Some-Some.is-1,
)

pub returns-in_default : goal.returns-in_default
returns-in_default c = λ asked asks.
    let gives = asks_call (rows_in c.args.entries.now) asked asks in
    elim c.in_default.branch [
      | in_default-via-in-Some+in_default w ↦ lacking c.args.entries.now (codes "input") c.get_str.result c.get_str.ensures w.in_default.is-1 gives.1 gives.3
      | in_default-via-in_default w ↦ none_found _ c.module_asked.result c.module_asked.ensures w.in_default.is-0 gives.0 gives.2
    ]
