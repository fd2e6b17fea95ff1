use Rattle.checkpoint.proofs.Again.{older_is_read, written_is_read}
use Rattle.checkpoint.proofs.laws.what_is_written_is_read.Goals as goal

pub returns-clause-newer : goal.returns-clause-newer
returns-clause-newer c = written_is_read

pub returns-clause-older : goal.returns-clause-older
returns-clause-older c = older_is_read
