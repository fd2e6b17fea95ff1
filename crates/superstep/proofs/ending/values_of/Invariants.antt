use Rattle.std.proofs.Common.{◌≡◌, map, take}
use Rattle.superstep.specs.Ending.{states_values}
use Rattle.superstep.proofs.ending.values_of.Given as goal

abbrev pub invariant-loop-vertex : goal.invariant-loop-vertex
invariant-loop-vertex l = l.values.items ≡ states_values (map (λ vertex. vertex.now) (take l.vertex-index l.vertices))
