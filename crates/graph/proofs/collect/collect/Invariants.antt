use Rattle.std.proofs.Common.{length, take}
use Rattle.graph.specs.inside.Collected.{Says}
use Rattle.graph.specs.Said.{lines_of}
use Rattle.graph.proofs.collect.collect.Given as goal

abbrev pub invariant-loop-index : goal.invariant-loop-index
invariant-loop-index l = Says (take (length l.yielded) (lines_of l.text)) l.collected
