use Rattle.cost.proofs.Cycles.{turned_least}
use Rattle.cost.proofs.cycle.rotate_to_least.Goals as goal

pub returns-clause-least : goal.returns-clause-least
returns-clause-least c =
    turned_least c.args.cycle.now c.rotate_left.new.self c.least_place-place.result c.rotate_left.ensures.len c.rotate_left.ensures.by_index c.least_place-place.ensures.inside c.least_place-place.ensures.least
