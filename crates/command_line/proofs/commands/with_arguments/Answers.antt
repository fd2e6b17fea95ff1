use Rattle.std.proofs.Common.{ap₂, ◌∙◌, ◌||◌}
use Rattle.clap.specs.Words.{app_of, with_rule}
use Rattle.command_line.specs.inside.Tables.{rule_in}
use Rattle.command_line.proofs.CommandRules.{next_made, or_false}
use Rattle.command_line.proofs.commands.with_arguments.Goals as goal

pub loop-argument-preserved : goal.loop-argument-preserved
loop-argument-preserved c = (
  c.in_ok-command.ensures.shape c.arg.ensures.1
      ∙ ap₂ with_rule c.loop-argument.invariant.0 c.arg.ensures.0
      ∙ next_made rule_in (app_of c.args.command) c.args.arguments.now c.loop-argument.argument-index _ c.loop-argument-test.true,
  c.in_ok-command.ensures.globals ∙ ap₂ ◌||◌ c.loop-argument.invariant.1 c.arg.ensures.1 ∙ or_false _,
)
