use Rattle.graph.proofs.spread.fn.place_both.place_first.Goals as goal

pub returns : goal.returns
returns c = c.place_own.ensures
