use Rattle.graph.proofs.place.unknown_edge.Goals as goal

pub returns : goal.returns
returns c = rw (c.deref.ensures.value, c.in_ok-ids.ensures) at c.first_unknown.ensures
