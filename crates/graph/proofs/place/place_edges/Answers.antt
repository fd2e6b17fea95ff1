use Rattle.graph.specs.Entry.{entries_of, ids}
use Rattle.graph.proofs.Placing.{ends_fail}
use Rattle.graph.proofs.place.place_edges.Goals as goal

pub returns-in-Some-clause-only : goal.returns-in-Some-clause-only
returns-in-Some-clause-only c = λ told. ends_fail (ids (entries_of c.args.vertices.now)) c.args.edges.now c.in-Some.place (rw c.in-Some.is at c.in_ok-place.ensures)
