use Rattle.std.proofs.Common.{◌≡◌, ◌∙◌, [], Bool, ap, ap₂, false, true}
use Rattle.std.proofs.lemmas.Result.{IfOk-weaker}
use Rattle.clap.specs.Words.{App, Shape, app_of}
use Rattle.clap.specs.Simple.{app_of_fields, on_top}
use Rattle.clap.specs.declared.builder.command.Command.{Command}
use Rattle.clap.specs.declared.builder.command.Command.TheOpen.{Command-F}
use Rattle.clap.specs.declared.builder.command.Command.TheViews.{out-Command}
use Rattle.command_line.specs.Commands.{pregel}
use Rattle.command_line.specs.Commands.{IsCommand}
use Rattle.command_line.specs.inside.Tables.{with_shapes}
use Rattle.command_line.proofs.commands.pregel.Goals as goal

abbrev bare : App
bare = record { top = record pregel.top { is_leaf = true }; subs = [] }

abbrev shows_version : App → App
shows_version = on_top (λ (s : Shape). record s { has_version = true })

abbrev wants_command : App → App
wants_command = on_top (λ (s : Shape). record s { subcommand_required = true })

abbrev shows_help : App → App
shows_help = on_top (λ (s : Shape). record s { arg_required_else_help = true })

pub returns : goal.returns
returns c =
    let named : app_of c.about.result ≡ app_of c.new.result = ap app_of_fields c.about.ensures ∙ ap app_of_fields c.in_ok-bin_name.ensures.0 in
    let versioned : app_of c.version.result ≡ shows_version (app_of c.new.result) =
    ap app_of_fields c.version.ensures ∙ ap shows_version named in
    let told : app_of c.after_help.result ≡ shows_version (app_of c.new.result) = ap app_of_fields c.after_help.ensures ∙ versioned in
    let wanting : app_of c.subcommand_required.result ≡ wants_command (app_of c.after_help.result) = ap app_of_fields c.subcommand_required.ensures in
    let helping : app_of c.arg_required_else_help-command.result ≡ shows_help (app_of c.subcommand_required.result) =
    ap app_of_fields c.arg_required_else_help-command.ensures in
    let globals : Command-F Command → Bool = λ (f : Command-F Command). f.has_globals in
    let alone : (out-Command c.arg_required_else_help-command.result).has_globals ≡ false =
    ap globals c.arg_required_else_help-command.ensures ∙ ap globals c.subcommand_required.ensures ∙ ap globals c.after_help.ensures
    ∙ ap globals c.version.ensures ∙ ap globals c.about.ensures ∙ ap globals c.in_ok-bin_name.ensures.0 ∙ c.new.ensures.local in
    let top : IsCommand bare c.arg_required_else_help-command.result = (
      helping ∙ ap shows_help (wanting ∙ ap wants_command (told ∙ ap shows_version c.new.ensures.app)),
      alone,
    ) in
    IfOk-weaker c.with_commands.result _ _ (λ new added. (added.0 ∙ ap₂ with_shapes top.0 c.usages.ensures, added.1 ∙ top.1)) c.with_commands.ensures
