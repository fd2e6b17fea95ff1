use Rattle.command_line.specs.inside.Matches.{rows_in}
use Rattle.command_line.proofs.Entries.{bound_found, none_given, text_given}
use Rattle.command_line.proofs.command_line.bound_of.Goals as goal

pub returns-in-Some : goal.returns-in-Some
returns-in-Some c =
    let rows = rows_in c.args.entries.now in
    bound_found rows c.args.name.now c.in-Some.field-0.now c.number_of.result c.map.result
    (text_given c.args.entries.now c.args.name.now c.get_str.result c.in-Some.field-0 c.get_str.ensures c.in-Some.is)
    c.number_of.ensures c.map.ensures.cases

pub returns-in-None : goal.returns-in-None
returns-in-None c = none_given c.args.entries.now c.args.name.now c.get_str.result c.get_str.ensures c.in-None.is
