use Rattle.std.proofs.Common.{◌∙◌, ap, false, lit<, sym}
use Rattle.std.specs.Option.{option_map_or}
use Rattle.command_line.specs.CommandLine.{begins_with_plus}
use Rattle.command_line.proofs.Entries.{none_given, text_given}
use Rattle.command_line.proofs.command_line.begins_with_plus.Goals as goal

pub returns-in-Some : goal.returns-in-Some
returns-in-Some c =
    c.starts_with.ensures.byte (lit< tt) (lit< tt) (λ w o h. h)
    ∙ ap (λ text. option_map_or begins_with_plus text false)
    (sym (text_given c.args.entries.now c.args.name.now c.get_str.result c.in-Some.text c.get_str.ensures c.in-Some.is))

pub returns-in-None : goal.returns-in-None
returns-in-None c =
    ap (λ text. option_map_or begins_with_plus text false)
    (sym (none_given c.args.entries.now c.args.name.now c.get_str.result c.get_str.ensures c.in-None.is))
