use Rattle.graph.proofs.Placing.{in_span}
use Rattle.graph.proofs.Vertices.{found_place}
use Rattle.graph.proofs.place.place_of.Goals as goal

pub returns-then-not-is_in_span : goal.returns-then-not-is_in_span
returns-then-not-is_in_span c = λ there. let yes = c.is_in_span.ensures.1 (in_span c.args.ids.now c.args.id c.requires there) in absurd (cc)

pub returns : goal.returns
returns c = rw c.ok.ensures.value (found_place c.args.ids.now c.args.id c.binary_search.result c.requires c.binary_search.ensures.position)
