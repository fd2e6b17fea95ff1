use Rattle.interp.proofs.Staying.{calls_stay_within}
use Rattle.interp.proofs.laws.calls_stay_within.Goals as goal

pub returns : goal.returns
returns c = calls_stay_within
