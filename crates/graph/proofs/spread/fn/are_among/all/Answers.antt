use Rattle.graph.proofs.Placing.{none_unknown}
use Rattle.graph.proofs.spread.fn.are_among.all.Goals as goal

pub returns : goal.returns
returns c = none_unknown c.captures.ids.now c.args.chunk.now c.first_unknown.result c.is_none.result c.is_none.ensures c.first_unknown.ensures
