use Rattle.std.proofs.Common.{◌≡◌, ◌++◌, map, drop, take}
use Rattle.std.specs.Prelude.{slice_get}
use Rattle.wasm_ast.specs.declared.module.Function.{Function}
use Rattle.verified.specs.Spaces.{imported, function_import}
use Rattle.verified.specs.Arities.{type_arity}
use Rattle.profile_rules.proofs.arity.arity_table.Given as goal

abbrev pub invariant-loop-import : goal.invariant-loop-import
invariant-loop-import l =
    map (λ n. type_arity (slice_get l.types n)) (imported function_import l.import-items) ≡ l.table.items ++ map (λ n. type_arity (slice_get l.types n)) (imported function_import (drop l.import-index l.import-items))

abbrev pub invariant-loop-function : goal.invariant-loop-function
invariant-loop-function l =
    l.table.items ≡ map (λ n. type_arity (slice_get l.types n)) (imported function_import l.module.imports) ++ map (λ (f : Function). type_arity (slice_get l.types f.type_number)) (take l.function-index l.function-items)
