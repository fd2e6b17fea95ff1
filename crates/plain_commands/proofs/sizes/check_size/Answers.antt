use Rattle.std.proofs.Common.{rules}
use Rattle.plain_commands.proofs.sizes.check_size.Goals as goal

pub returns-in-Some : goal.returns-in-Some
returns-in-Some c = search rules
