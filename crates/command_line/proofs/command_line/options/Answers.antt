use Rattle.std.proofs.Common.{map}
use Rattle.command_line.proofs.Pregel.{no_memory}
use Rattle.command_line.proofs.command_line.options.Goals as goal

pub returns-in_err-command-clause-refused : goal.returns-in_err-command-clause-refused
returns-in_err-command-clause-refused g c = no_memory _ (map g.S.AsStr.text c.args.words.now) _ c.from_residual.ensures.1
