use Rattle.std.proofs.Common.{◌<◌, length, arith}
use Rattle.wasm_ast.specs.Falls.{item_falls}
use Rattle.wat_syntax.proofs.Codes.{within_item}
use Rattle.wat_syntax.proofs.instructions.+code.Goals as goal

pub write_code-write_instr-requires : goal.write_code-write_instr-requires
write_code-write_instr-requires t c =
    let h : c.loop-instr.instr-index < length c.as_slice-instr-items.result.now = omega arith in
    let f = item_falls c.as_slice-instr-items.result.now c.loop-instr.instr-index c.instr-item.result c.args.body.now h c.instr-item.is c.as_slice-instr-items.ensures in
    (omega (arith, f, c.decreases), (c.requires.room, within_item c.args.levels c.as_slice-instr-items.result.now c.loop-instr.instr-index c.instr-item.result h c.instr-item.is c.loop-instr.invariant.within))

pub write_instr-returns-in-Unreachable : goal.write_instr-returns-in-Unreachable
write_instr-returns-in-Unreachable t c = rw c.in-Unreachable.is c.write_keyword-in-Unreachable.ensures
