use Rattle.std.proofs.Common.{◌≡◌, ◌∙◌, ap, rules, sym}
use Rattle.std.specs.List.{list_any}
use Rattle.command_line.specs.CommandLine.{has_plus_in, is_signed, numbers}
use Rattle.command_line.specs.inside.Matches.{rows_in}
use Rattle.command_line.proofs.Entries.{met}
use Rattle.command_line.proofs.command_line.has_plus.Goals as goal

pub returns : goal.returns
returns c =
    let rows = rows_in c.in-Some.entries.now in
    let table : list_any (λ s. is_signed rows s.now) c.as_slice.result.now ≡ list_any (is_signed rows) numbers = search rules in
    let entered = met c.args.matches.now c.subcommand.result c.in-Some.field-0-0 c.in-Some.entries c.subcommand.ensures.name c.subcommand.ensures.rows
    c.in-Some.is in
    c.any_has_plus.ensures ∙ table ∙ ap has_plus_in (sym entered)
