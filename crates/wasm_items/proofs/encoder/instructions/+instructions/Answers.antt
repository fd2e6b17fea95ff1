use Rattle.std.proofs.Common.{◌≡◌, ◌<◌, ◌∷◌, ◌++◌, ◌∙◌, ap, sym, length, append_assoc, arith}
use Rattle.wasm_ast.specs.Code.{Code}
use Rattle.wasm_ast.specs.Falls.{item_falls}
use Rattle.wasm_items.specs.Canonical.{code_bytes, else_bytes}
use Rattle.wasm_items.proofs.CanonicalCode.{code_goes_on, code_is_done, else_is_written}
use Rattle.wasm_items.proofs.encoder.instructions.+instructions.Goals as goal

pub write_body-write_instr-requires : goal.write_body-write_instr-requires
write_body-write_instr-requires t c =
    let h : c.loop-instr.instr-index < length c.as_slice-instr-items.result.now = omega arith in
    let f = item_falls c.as_slice-instr-items.result.now c.loop-instr.instr-index c.instr-item.result c.args.body.now h c.instr-item.is c.as_slice-instr-items.ensures in
    (omega (arith, f, c.decreases), tt)

pub write_body-loop-instr-preserved : goal.write_body-loop-instr-preserved
write_body-loop-instr-preserved t c =
    rw c.in_ok-write_instr.ensures (code_goes_on c.loop-instr.out.items _ c.as_slice-instr-items.result.now c.loop-instr.instr-index c.instr-item.result
    c.loop-instr-test.true c.instr-item.is c.loop-instr.invariant)

pub write_body-returns : goal.write_body-returns
write_body-returns t c =
    code_is_done c.loop-instr.out.items _ c.as_slice-instr-items.result.now c.loop-instr.instr-index c.loop-instr-test.false c.loop-instr.invariant
    ∙ ap (λ (code : Code). c.args.out.now.items ++ code_bytes code) c.as_slice-instr-items.ensures

pub write_else-returns : goal.write_else-returns
write_else-returns t c =
    let is = c.as_slice.result.now in
    let arm = c.args.arm.now in
    let some = sym c.is_empty.ensures ∙ c.if-is_empty.false in
    let here : else_bytes arm (code_bytes arm) ≡ 0x05 ∷ code_bytes arm = else_is_written is arm (code_bytes arm) c.as_slice.ensures some in
    let so_far = c.in_ok-write_byte.ensures in
    rw here (rw (so_far, append_assoc) at c.write_body.ensures)
