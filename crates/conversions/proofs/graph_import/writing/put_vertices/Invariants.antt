use Rattle.std.proofs.Common.{◌≡◌, ◌++◌, map, string_bytes, take}
use Rattle.graph.specs.Print.{value_lines}
use Rattle.conversions.specs.graph_import.Graph.{valued}
use Rattle.conversions.proofs.graph_import.writing.put_vertices.Given as goal

abbrev pub invariant-loop-id : goal.invariant-loop-id
invariant-loop-id l = string_bytes l.text ≡ string_bytes l.initial.text ++ value_lines (map (valued l.values) (take l.id-index l.ids))
