use Rattle.std.proofs.Common.{map, take}
use Rattle.command_line.specs.inside.Tables.{AddsCommands, shape_in}
use Rattle.command_line.proofs.commands.with_commands.Given as goal

abbrev pub invariant-loop-usage : goal.invariant-loop-usage
invariant-loop-usage l = AddsCommands l.initial.command (map shape_in (take l.usage-index l.usages)) l.command
