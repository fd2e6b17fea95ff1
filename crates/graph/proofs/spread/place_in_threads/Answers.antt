use Rattle.graph.proofs.spread.place_in_threads.Goals as goal

pub returns-clause-ends : goal.returns-clause-ends
returns-clause-ends g c = c.in_ok-have_ends.ensures.0 c.if-not-branch.false
