use Rattle.std.proofs.Common.{◌≡◌, map, take}
use Rattle.fit.specs.Fit.{outside_of}
use Rattle.fit.proofs.fitting.rewritten_functions.Given as goal

abbrev pub invariant-loop-function : goal.invariant-loop-function
invariant-loop-function l = map outside_of l.functions.items ≡ map outside_of (take l.function-index l.module.functions)
