use Rattle.std.proofs.Common.{map, take}
use Rattle.command_line.specs.inside.Tables.{AddsRules, rule_in}
use Rattle.command_line.proofs.commands.with_arguments.Given as goal

abbrev pub invariant-loop-argument : goal.invariant-loop-argument
invariant-loop-argument l = AddsRules l.initial.command (map rule_in (take l.argument-index l.arguments)) l.command
