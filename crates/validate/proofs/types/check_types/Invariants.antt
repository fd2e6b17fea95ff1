use Rattle.std.proofs.Common.{take}
use Rattle.std.specs.List.{AllByRecursion}
use Rattle.verified.specs.Modules.{TypeHolds}
use Rattle.validate.proofs.types.check_types.Given as goal

abbrev pub invariant-loop-function_type : goal.invariant-loop-function_type
invariant-loop-function_type l = AllByRecursion TypeHolds (take l.function_type-index l.types)
