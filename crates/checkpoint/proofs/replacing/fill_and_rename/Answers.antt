use Rattle.std.proofs.Common.{rules}
use Rattle.checkpoint.proofs.replacing.fill_and_rename.Goals as goal

pub returns : goal.returns
returns g c = search rules
