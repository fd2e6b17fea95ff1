use Rattle.std.proofs.Common.{rules}
use Rattle.plain_commands.proofs.noting.outcome_of_end.Goals as goal

pub returns : goal.returns
returns c = search rules
