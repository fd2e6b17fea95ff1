use Rattle.std.proofs.Common.{◌≡◌}
use Rattle.conversions.proofs.graph_import.table.read_records.Given as goal

abbrev pub invariant-loop-turn : goal.invariant-loop-turn
invariant-loop-turn l = l.edges.most ≡ l.initial.edges.most
