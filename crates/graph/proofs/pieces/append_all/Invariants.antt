use Rattle.std.proofs.Common.{◌≡◌}
use Rattle.graph.specs.inside.Pieces.{edges_in, vertices_in}
use Rattle.graph.proofs.pieces.append_all.Given as goal

abbrev pub invariant-loop-piece : goal.invariant-loop-piece
invariant-loop-piece l = (l.whole.vertices.items ≡ vertices_in l.yielded) × (l.whole.edges.items ≡ edges_in l.yielded)
