use Rattle.std.proofs.Common.{rules}
use Rattle.plain_commands.proofs.replay.push_said.Goals as goal

pub returns-in-Stale : goal.returns-in-Stale
returns-in-Stale c = search rules
