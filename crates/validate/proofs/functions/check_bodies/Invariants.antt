use Rattle.std.proofs.Common.{take}
use Rattle.std.specs.List.{AllByRecursion}
use Rattle.verified.specs.Modules.{FunctionTyped}
use Rattle.validate.proofs.functions.check_bodies.Given as goal

abbrev pub invariant-loop-index : goal.invariant-loop-index
invariant-loop-index l = AllByRecursion (FunctionTyped l.spaces) (take l.index l.functions)
