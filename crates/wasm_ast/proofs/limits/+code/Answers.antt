use Rattle.std.proofs.Common.{◌<◌, length, arith}
use Rattle.wasm_ast.specs.Falls.{item_falls}
use Rattle.wasm_ast.proofs.limits.+code.Goals as goal

pub is_code_within-is_instr_within-requires : goal.is_code_within-is_instr_within-requires
is_code_within-is_instr_within-requires t c =
    let h : c.loop-instr.instr-index < length c.as_slice-instr-items.result.now = omega arith in
    let f = item_falls c.as_slice-instr-items.result.now c.loop-instr.instr-index c.instr-item.result c.args.body.now h c.instr-item.is c.as_slice-instr-items.ensures in
    (omega (arith, f, c.decreases), tt)
