use Rattle.std.proofs.Common.{rules}
use Rattle.checkpoint.proofs.files.saved_of.Goals as goal

pub returns-in_ok-seal-in-Ok : goal.returns-in_ok-seal-in-Ok
returns-in_ok-seal-in-Ok c = search rules
