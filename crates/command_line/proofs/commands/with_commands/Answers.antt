use Rattle.std.proofs.Common.{ap₂, refl, ◌∙◌}
use Rattle.clap.specs.Words.{app_of, with_subcommand}
use Rattle.command_line.specs.inside.Tables.{shape_in}
use Rattle.command_line.proofs.CommandRules.{next_below}
use Rattle.command_line.proofs.commands.with_commands.Goals as goal

pub loop-usage-preserved : goal.loop-usage-preserved
loop-usage-preserved c = (
  c.in_ok-command.ensures.0
      ∙ ap₂ with_subcommand c.loop-usage.invariant.0 refl
      ∙ next_below shape_in (app_of c.args.command) c.args.usages.now c.loop-usage.usage-index _ c.loop-usage-test.true,
  c.in_ok-command.ensures.1 ∙ c.loop-usage.invariant.1,
)
