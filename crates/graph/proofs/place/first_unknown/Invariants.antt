use Rattle.std.proofs.Common.{take}
use Rattle.std.specs.List.{All}
use Rattle.graph.specs.inside.Placed.{HasEnds}
use Rattle.graph.proofs.place.first_unknown.Given as goal

abbrev pub invariant-loop-index : goal.invariant-loop-index
invariant-loop-index l = All (HasEnds l.ids) (take l.index l.edges)
