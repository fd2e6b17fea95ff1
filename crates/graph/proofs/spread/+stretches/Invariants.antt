use Rattle.std.proofs.Common.{◌+◌, ◌*◌}
use Rattle.graph.proofs.spread.+stretches.Given as goal

abbrev pub decreases-place_stretches : goal.decreases-place_stretches
decreases-place_stretches g l = 3 * l.count

abbrev pub decreases-place_both : goal.decreases-place_both
decreases-place_both g l = 3 * l.count + 2

abbrev pub decreases-place_both-place_others : goal.decreases-place_both-place_others
decreases-place_both-place_others g l = 3 * l.count + 1
