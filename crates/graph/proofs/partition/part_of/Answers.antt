use Rattle.std.proofs.Common.{refl}
use Rattle.graph.proofs.partition.part_of.Goals as goal

pub returns : goal.returns
returns c = rw c.from.ensures refl
