use Rattle.verified.specs.LeastUnits.{units_least}
use Rattle.cost.proofs.laws.units_are_counted.Goals as goal

pub returns : goal.returns
returns c = units_least
