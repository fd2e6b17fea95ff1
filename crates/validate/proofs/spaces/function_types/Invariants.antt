use Rattle.std.proofs.Common.{◌≡◌, ◌++◌, take}
use Rattle.verified.specs.Spaces.{function_import, imported}
use Rattle.validate.specs.inside.Checks.{type_numbers}
use Rattle.validate.proofs.spaces.function_types.Given as goal

abbrev pub invariant-loop-import : goal.invariant-loop-import
invariant-loop-import l = l.numbers.items ≡ imported function_import (take l.import-index l.imports)

abbrev pub invariant-loop-function : goal.invariant-loop-function
invariant-loop-function l = l.numbers.items ≡ imported function_import l.imports ++ type_numbers (take l.function-index l.functions)
