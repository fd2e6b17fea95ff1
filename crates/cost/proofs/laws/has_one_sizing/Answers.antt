use Rattle.cost.specs.Marks.{rank_at}
use Rattle.cost.proofs.Sizing.{one_sizing}
use Rattle.cost.proofs.laws.has_one_sizing.Goals as goal

pub returns : goal.returns
returns c = one_sizing c.args.valid.now (rank_at c.args.ranks.now) c.requires.falls
