use Rattle.std.proofs.Common.{◌≡◌, take}
use Rattle.std.specs.Prelude.{sum_by}
use Rattle.session.proofs.Edges.{edges_at}
use Rattle.session.proofs.texts.count_edges.Given as goal

abbrev pub invariant-loop-vertex : goal.invariant-loop-vertex
invariant-loop-vertex l = l.count ≡ sum_by edges_at (take l.vertex-index l.vertices)
