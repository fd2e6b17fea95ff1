use Rattle.std.proofs.Common.{rules}
use Rattle.graph.proofs.Vertices.{ids_entries}
use Rattle.graph.proofs.place.vertex_ids.Goals as goal

pub returns : goal.returns
returns c = rw (ids_entries c.args.vertices.now) (search rules)
