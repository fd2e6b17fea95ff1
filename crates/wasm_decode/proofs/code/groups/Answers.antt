use Rattle.std.proofs.lemmas.Result.{err_from_is_err_and}
use Rattle.wasm_decode.specs.inside.ReadingModule.{groups_at}
use Rattle.wasm_decode.proofs.FunctionLoops.{groups_go_on, groups_fail_at_len, groups_too_many, groups_fail_at_type, groups_done}
use Rattle.wasm_decode.proofs.code.groups.Goals as goal

pub returns-in_err-len : goal.returns-in_err-len
returns-in_err-len c =
    let p = err_from_is_err_and c.from_residual.result c.from_residual.ensures.1 in
    rw (p.1, p.2) (groups_fail_at_len c.in_err-len.field-0.0 c.loop.locals.items c.args.count c.loop.counter c.loop.room c.loop.reader (groups_at c.args.count c.args.room c.args.reader.now) c.loop-test.true c.in_err-len.ensures c.loop.invariant)

pub returns-then-len-room : goal.returns-then-len-room
returns-then-len-room c =
    groups_too_many c.loop.locals.items c.args.count c.loop.counter c.loop.room c.in_ok-len.len c.loop.reader c.u32.new.self (groups_at c.args.count c.args.room c.args.reader.now) c.loop-test.true c.in_ok-len.ensures c.if-len-room.true c.loop.invariant

pub returns-in_err-local : goal.returns-in_err-local
returns-in_err-local c =
    let p = err_from_is_err_and c.from_residual-in_err-local.result c.from_residual-in_err-local.ensures.1 in
    rw (p.1, p.2) (groups_fail_at_type c.in_err-local.field-0.0 c.loop.locals.items c.args.count c.loop.counter c.loop.room c.in_ok-len.len c.loop.reader c.u32.new.self (groups_at c.args.count c.args.room c.args.reader.now) c.loop-test.true c.in_ok-len.ensures c.if-len-room.false c.in_err-local.ensures c.loop.invariant)

pub loop-preserved : goal.loop-preserved
loop-preserved c =
    rw c.in_ok-push_copies.ensures (groups_go_on c.loop.locals.items c.args.count c.loop.counter c.loop.room c.in_ok-len.len c.loop.reader c.u32.new.self c.val_type.new.reader c.in_ok-local.local (groups_at c.args.count c.args.room c.args.reader.now) c.loop-test.true c.in_ok-len.ensures c.if-len-room.false c.in_ok-local.ensures c.loop.invariant)

pub returns : goal.returns
returns c =
    groups_done c.loop.locals.items c.args.count c.loop.counter c.loop.room c.loop.reader (groups_at c.args.count c.args.room c.args.reader.now) c.loop-test.false c.loop.invariant
