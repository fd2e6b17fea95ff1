use Rattle.inbox.proofs.Counting.{dropped_of-flat_map}
use Rattle.inbox.proofs.laws.drops_add_up_over_sources.Goals as goal

pub returns : goal.returns
returns c = dropped_of-flat_map
