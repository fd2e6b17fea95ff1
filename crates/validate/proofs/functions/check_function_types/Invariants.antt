use Rattle.std.proofs.Common.{take, ◌<◌, length}
use Rattle.std.specs.List.{AllByRecursion}
use Rattle.validate.proofs.functions.check_function_types.Given as goal

abbrev pub invariant-loop-number : goal.invariant-loop-number
invariant-loop-number l = AllByRecursion (λ n. n < length l.spaces.types) (take l.number l.type_number-items)
