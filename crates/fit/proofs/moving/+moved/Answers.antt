use Rattle.std.proofs.Common.{◌<◌, length, arith}
use Rattle.wasm_ast.specs.Falls.{item_falls}
use Rattle.fit.proofs.moving.+moved.Goals as goal

pub moved_body-moved_instr-requires : goal.moved_body-moved_instr-requires
moved_body-moved_instr-requires t c =
    let is = c.as_slice-instrs.result.now in
    let h : c.loop-instr.instr-index < length is = omega arith in
    let f = item_falls is c.loop-instr.instr-index c.instr-item.result c.args.body.now h c.instr-item.is c.as_slice-instrs.ensures in
    (omega (arith, f, c.decreases), tt)
