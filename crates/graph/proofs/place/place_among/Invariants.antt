use Rattle.std.proofs.Common.{◌≡◌, map, take}
use Rattle.graph.specs.Entry.{entries_of}
use Rattle.graph.specs.inside.Placed.{with_edges}
use Rattle.graph.proofs.place.place_among.Given as goal

abbrev pub invariant-loop-index : goal.invariant-loop-index
invariant-loop-index l = entries_of l.vertices ≡ map (with_edges (take l.index l.edges)) (entries_of l.initial.vertices)
