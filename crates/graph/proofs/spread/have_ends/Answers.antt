use Rattle.graph.proofs.spread.have_ends.Goals as goal

pub returns : goal.returns
returns g c = rw (c.deref.ensures.value, c.in_ok-ids.ensures) at c.are_among.ensures
