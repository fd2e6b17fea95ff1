use Rattle.std.proofs.Common.{◌≡◌, take}
use Rattle.cost.specs.inside.Outlines.{outlines_of}
use Rattle.cost.proofs.outline.outlines_of.Given as goal

abbrev pub invariant-loop-function : goal.invariant-loop-function
invariant-loop-function l = l.outlines.items ≡ outlines_of l.weights (take l.function-index l.functions)
