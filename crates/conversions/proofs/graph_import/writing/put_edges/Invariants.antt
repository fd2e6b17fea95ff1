use Rattle.std.proofs.Common.{◌≡◌, ◌++◌, string_bytes, take}
use Rattle.conversions.specs.graph_import.Graph.{edge_lines}
use Rattle.conversions.proofs.graph_import.writing.put_edges.Given as goal

abbrev pub invariant-loop-edge : goal.invariant-loop-edge
invariant-loop-edge l = string_bytes l.text ≡ string_bytes l.initial.text ++ edge_lines (take l.edge-index l.edges)
