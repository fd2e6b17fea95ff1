use Rattle.std.proofs.Common.{◌≡◌, ◌++◌, map, take}
use Rattle.conversions.specs.graph_import.Graph.{target_of}
use Rattle.conversions.proofs.graph_import.vertices.add_targets.Given as goal

abbrev pub invariant-loop-edge : goal.invariant-loop-edge
invariant-loop-edge l = l.ids.items ≡ l.initial.ids.items ++ map target_of (take l.edge-index l.edges)
