use Rattle.checkpoint.proofs.Seals.{of_one}
use Rattle.checkpoint.proofs.laws.a_seal_is_of_one_checkpoint.Goals as goal

pub returns : goal.returns
returns c = of_one
