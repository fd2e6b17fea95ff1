use Rattle.std.proofs.lemmas.Result.{err_from_is_err_and}
use Rattle.wasm_decode.specs.inside.ReadingModule.{bodies_at}
use Rattle.wasm_decode.proofs.FunctionLoops.{bodies_go_on, bodies_fail, bodies_done}
use Rattle.wasm_decode.proofs.code.bodies.Goals as goal

pub returns-in_err-function : goal.returns-in_err-function
returns-in_err-function c =
    let p = err_from_is_err_and c.from_residual.result c.from_residual.ensures.1 in
    rw (p.1, p.2) (bodies_fail c.in_err-function.field-0.0 c.args.types.now c.loop-type_number.functions.items c.args.type_numbers.now c.loop-type_number.type_number-index c.loop-type_number.reader (bodies_at c.args.types.now c.args.type_numbers.now c.args.reader.now) c.loop-type_number-test.true c.in_err-function.ensures c.loop-type_number.invariant)

pub loop-type_number-preserved : goal.loop-type_number-preserved
loop-type_number-preserved c =
    rw c.in_ok-push.ensures.items (bodies_go_on c.args.types.now c.loop-type_number.functions.items c.args.type_numbers.now c.loop-type_number.type_number-index c.loop-type_number.reader c.function.new.reader c.in_ok-function.function (bodies_at c.args.types.now c.args.type_numbers.now c.args.reader.now) c.loop-type_number-test.true c.in_ok-function.ensures c.loop-type_number.invariant)

pub returns : goal.returns
returns c =
    bodies_done c.args.types.now c.loop-type_number.functions.items c.args.type_numbers.now c.loop-type_number.type_number-index c.loop-type_number.reader (bodies_at c.args.types.now c.args.type_numbers.now c.args.reader.now) c.loop-type_number-test.false c.loop-type_number.invariant
