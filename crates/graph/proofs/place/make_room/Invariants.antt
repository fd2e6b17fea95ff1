use Rattle.std.proofs.Common.{◌≡◌}
use Rattle.graph.specs.Entry.{entries_of}
use Rattle.graph.proofs.place.make_room.Given as goal

abbrev pub invariant-loop-index : goal.invariant-loop-index
invariant-loop-index l = entries_of l.vertices ≡ entries_of l.fn.vertices
