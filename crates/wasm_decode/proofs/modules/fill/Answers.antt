use Rattle.std.proofs.Common.{◌∙◌, ap}
use Rattle.wasm_ast.specs.Limits.{imported_functions}
use Rattle.wasm_decode.proofs.Steps.{filled_step}
use Rattle.wasm_decode.proofs.modules.fill.Goals as goal

pub returns : goal.returns
returns c =
    let count = c.imported_functions-imported.ensures ∙ ap imported_functions c.as_slice.ensures in
    rw (filled_step c.args.reader.now c.skip_customs.new.reader c.types_and_imports.new.reader c.type_numbers.new.reader c.in_ok-type_numbers.type_numbers c.args.module.now c.types_and_imports.new.module c.imported_functions-imported.result c.in_ok-skip_customs.ensures c.in_ok-types_and_imports.ensures count c.in_ok-type_numbers.ensures) c.remaining.ensures
