use Rattle.std.proofs.Common.{take, ◌<◌, length}
use Rattle.std.specs.List.{AllByRecursion}
use Rattle.validate.proofs.segments.check_element.Given as goal

abbrev pub invariant-loop-function : goal.invariant-loop-function
invariant-loop-function l = AllByRecursion (λ f. f < length l.spaces.functions) (take l.function-index l.element.functions)
