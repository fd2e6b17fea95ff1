use Rattle.std.proofs.lemmas.Result.{err_from_is_err_and}
use Rattle.wasm_decode.specs.inside.ReadingModule.{after_bytes}
use Rattle.wasm_decode.proofs.Headers.{expect_fails, expect_refuses, expect_goes_on}
use Rattle.wasm_decode.proofs.modules.expect.Goals as goal

pub returns-in_err-byte : goal.returns-in_err-byte
returns-in_err-byte c =
    let p = err_from_is_err_and c.from_residual.result c.from_residual.ensures.1 in
    let wanted = c.args.wanted.now in
    rw (p.1, p.2) (expect_fails c.in_err-byte.field-0.0 wanted c.loop-byte.byte-index c.loop-byte.reader (after_bytes wanted c.args.reader.now) c.loop-byte-test.true c.in_err-byte.ensures c.loop-byte.invariant)

pub returns-then-branch-byte : goal.returns-then-branch-byte
returns-then-branch-byte c =
    let wanted = c.args.wanted.now in
    expect_refuses c.args.fault wanted c.loop-byte.byte-index c.loop-byte.reader c.byte.new.self c.in_ok-byte.field-0 (after_bytes wanted c.args.reader.now) c.loop-byte-test.true c.requires c.in_ok-byte.ensures c.if-branch-byte.true c.loop-byte.invariant

pub loop-byte-preserved : goal.loop-byte-preserved
loop-byte-preserved c =
    let wanted = c.args.wanted.now in
    expect_goes_on wanted c.loop-byte.byte-index c.loop-byte.reader c.byte.new.self c.in_ok-byte.field-0 (after_bytes wanted c.args.reader.now) c.loop-byte-test.true c.in_ok-byte.ensures c.if-branch-byte.false c.loop-byte.invariant
