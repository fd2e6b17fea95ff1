use Rattle.std.proofs.Common.{◌≡◌, length, take, true}
use Rattle.std.specs.List.{All}
use Rattle.graph.specs.edge_list.Said.{all_edges, is_good, lines_of}
use Rattle.graph.specs.inside.Adding.{Adds}
use Rattle.conversions.proofs.graph_import.list.read_list.Given as goal

abbrev pub invariant-loop-index : goal.invariant-loop-index
invariant-loop-index l = record {
  adds : Adds (all_edges l.initial.edges.both_ways (take (length l.yielded) (lines_of l.form l.text))) l.initial.edges l.edges;
  good : All (λ line. is_good line ≡ true) (take (length l.yielded) (lines_of l.form l.text));
}
