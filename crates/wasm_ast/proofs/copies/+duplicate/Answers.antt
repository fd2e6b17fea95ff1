use Rattle.std.proofs.Common.{◌<◌, length, arith}
use Rattle.wasm_ast.specs.Falls.{item_falls}
use Rattle.wasm_ast.proofs.copies.+duplicate.Goals as goal

pub duplicate_body-duplicate_instr-requires : goal.duplicate_body-duplicate_instr-requires
duplicate_body-duplicate_instr-requires t c =
    let h : c.loop-instr.instr-index < length c.as_slice-instrs.result.now = omega arith in
    let f = item_falls c.as_slice-instrs.result.now c.loop-instr.instr-index c.instr-item.result c.args.body.now h c.instr-item.is c.as_slice-instrs.ensures in
    (omega (arith, f, c.decreases), tt)
