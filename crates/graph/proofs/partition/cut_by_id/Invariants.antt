use Rattle.std.proofs.Common.{◌≡◌, map, vec_items}
use Rattle.graph.specs.Partition.{parts_by}
use Rattle.graph.proofs.partition.cut_by_id.Given as goal

abbrev pub invariant-loop-element : goal.invariant-loop-element
invariant-loop-element g l = map vec_items l.cut.items ≡ parts_by g.T.Identified.id l.parts l.yielded
