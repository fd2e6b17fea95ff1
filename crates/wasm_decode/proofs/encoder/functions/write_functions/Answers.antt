use Rattle.std.proofs.Common.{◌++◌, ap, ◌∙◌}
use Rattle.wasm_ast.specs.declared.module.Function.{Function}
use Rattle.wasm_decode.specs.Canonical.{function_bytes}
use Rattle.wasm_items.proofs.Listed.{one_more, all_written}
use Rattle.wasm_decode.proofs.encoder.functions.write_functions.Goals as goal

pub loop-function-preserved : goal.loop-function-preserved
loop-function-preserved c =
    one_more function_bytes _ _ _ c.args.functions.now _ c.loop-function.function-index c.loop-function-test.true c.loop-function.invariant
    (c.in_ok-write_function.ensures ∙ ap (λ (x : Function). c.loop-function.out.items ++ function_bytes x) c.function-item.is)

pub returns : goal.returns
returns c = all_written function_bytes _ _ c.args.functions.now c.loop-function.function-index c.loop-function-test.false c.loop-function.invariant
