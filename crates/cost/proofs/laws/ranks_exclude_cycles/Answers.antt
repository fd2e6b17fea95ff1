use Rattle.verified.specs.Calls.{callees}
use Rattle.cost.specs.Marks.{rank_at}
use Rattle.cost.proofs.Cycles.{no_cycle}
use Rattle.cost.proofs.laws.ranks_exclude_cycles.Goals as goal

pub returns : goal.returns
returns c = no_cycle (callees c.args.valid.now) (rank_at c.args.ranks.now) c.requires.falls
