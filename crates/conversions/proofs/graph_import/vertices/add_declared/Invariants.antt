use Rattle.std.proofs.Common.{◌≡◌, ◌++◌}
use Rattle.std.specs.List.{range_with_len}
use Rattle.conversions.proofs.graph_import.vertices.add_declared.Given as goal

abbrev pub invariant-loop-id : goal.invariant-loop-id
invariant-loop-id l = l.ids.items ≡ l.initial.ids.items ++ range_with_len 1 l.id
