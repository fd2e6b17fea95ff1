use Rattle.checkpoint.proofs.Lengths.{length_newer, length_older}
use Rattle.checkpoint.proofs.laws.a_checkpoint_is_so_long.Goals as goal

pub returns-clause-newer : goal.returns-clause-newer
returns-clause-newer c = length_newer

pub returns-clause-older : goal.returns-clause-older
returns-clause-older c = length_older
