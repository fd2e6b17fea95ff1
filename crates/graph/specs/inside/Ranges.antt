-- The ranges of an edge's numbers.
use Rattle.std.specs.Prelude.{◌<◌, ◌^◌, FitsSigned}
use Rattle.std.specs.Int.{w64}
use Rattle.graph.specs.declared.vertex.Edge.{Edge}

-- the ends and the value of an edge are in the range of a signed number of 64 bits
pub record IsInRange (edge : Edge) : Type 0 where
  pub from : edge.from < 2 ^ 63
  pub target : edge.target < 2 ^ 63
  pub value : FitsSigned w64 edge.value
