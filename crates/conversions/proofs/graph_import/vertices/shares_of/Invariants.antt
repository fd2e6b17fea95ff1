use Rattle.std.proofs.Common.{◌≡◌, map, take}
use Rattle.conversions.specs.graph_import.Graph.{shared}
use Rattle.conversions.proofs.graph_import.vertices.shares_of.Given as goal

abbrev pub invariant-loop-edge : goal.invariant-loop-edge
invariant-loop-edge l = l.shares.items ≡ map (shared l.edges) (take l.edge-index l.edges)
