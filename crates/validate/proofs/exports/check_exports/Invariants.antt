use Rattle.std.proofs.Common.{take}
use Rattle.std.specs.List.{AllByRecursion}
use Rattle.wasm_ast.specs.declared.module.Export.{Export}
use Rattle.verified.specs.Modules.{ExportTyped}
use Rattle.validate.proofs.exports.check_exports.Given as goal

abbrev pub invariant-loop-export : goal.invariant-loop-export
invariant-loop-export l = AllByRecursion (λ (e : Export). ExportTyped l.spaces e.description) (take l.export-index l.exports)
