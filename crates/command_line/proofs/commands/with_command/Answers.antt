use Rattle.std.proofs.Common.{◌≡◌, ◌∙◌, ◌||◌, Bool, ap, false, map}
use Rattle.std.proofs.lemmas.Result.{IfOk-weaker}
use Rattle.clap.specs.Words.{App, app_of, with_subcommand}
use Rattle.clap.specs.Simple.{app_of_fields}
use Rattle.clap.specs.declared.builder.command.Command.{Command}
use Rattle.clap.specs.declared.builder.command.Command.TheOpen.{Command-F}
use Rattle.clap.specs.declared.builder.command.Command.TheViews.{out-Command}
use Rattle.command_line.specs.inside.Tables.{rule_in, with_rules}
use Rattle.command_line.proofs.CommandRules.{or_false}
use Rattle.command_line.proofs.commands.with_command.Goals as goal

pub returns : goal.returns
returns c =
    let rules = map rule_in c.args.usage.now.arguments.now in
    let named : app_of c.after_help-leaf.result ≡ app_of c.new.result = ap app_of_fields c.after_help-leaf.ensures ∙ ap app_of_fields c.about.ensures in
    let globals : Command-F Command → Bool = λ (f : Command-F Command). f.has_globals in
    let alone : (out-Command c.in_ok-leaf.leaf).has_globals ≡ false =
    c.in_ok-leaf.ensures.1 ∙ ap globals c.after_help-leaf.ensures ∙ ap globals c.about.ensures ∙ c.new.ensures.local in
    let below = c.in_ok-leaf.ensures.0 ∙ ap (λ (a : App). with_rules a rules) (named ∙ c.new.ensures.app) in
    IfOk-weaker c.subcommand.result _ _ (λ new added. (
      added.shape alone ∙ ap (λ (a : App). with_subcommand (app_of c.args.command) a.top) below,
      added.globals ∙ ap (λ b. (out-Command c.args.command).has_globals || b) alone ∙ or_false _,
    )) c.subcommand.ensures
