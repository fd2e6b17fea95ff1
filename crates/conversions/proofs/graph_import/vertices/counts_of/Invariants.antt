use Rattle.std.proofs.Common.{◌≡◌, ℕ, nat_eq, take}
use Rattle.std.specs.HashMap.{get}
use Rattle.std.specs.Option.{unwrap_or}
use Rattle.conversions.specs.graph_import.Graph.{count_from}
use Rattle.conversions.proofs.graph_import.vertices.counts_of.Given as goal

abbrev pub invariant-loop-edge : goal.invariant-loop-edge
invariant-loop-edge l = (id : ℕ) → unwrap_or (get nat_eq l.counts id) 0 ≡ count_from (take l.edge-index l.edges) id
