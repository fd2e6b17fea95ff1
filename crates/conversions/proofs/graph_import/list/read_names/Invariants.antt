use Rattle.std.proofs.Common.{◌≡◌}
use Rattle.conversions.proofs.graph_import.list.read_names.Given as goal

abbrev pub invariant-loop-index : goal.invariant-loop-index
invariant-loop-index l = l.edges.most ≡ l.initial.edges.most
