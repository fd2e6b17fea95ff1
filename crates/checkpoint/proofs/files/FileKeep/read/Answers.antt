use Rattle.std.proofs.Common.{rules}
use Rattle.checkpoint.proofs.files.FileKeep.read.Goals as goal

pub returns : goal.returns
returns g c = search rules
