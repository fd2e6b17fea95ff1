use Rattle.interp.proofs.Owning.{keeps_own}
use Rattle.interp.proofs.laws.calls_keep_own_operands.Goals as goal

pub returns : goal.returns
returns c = keeps_own
