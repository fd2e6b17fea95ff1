use Rattle.std.proofs.Common.{◌<◌, length, arith}
use Rattle.wasm_ast.specs.Falls.{item_falls}
use Rattle.fit.proofs.labels.+names.Goals as goal

pub body_names-instr_names-requires : goal.body_names-instr_names-requires
body_names-instr_names-requires t c =
    let is = c.as_slice-instr-items.result.now in
    let h : c.loop-instr.instr-index < length is = omega arith in
    let f = item_falls is c.loop-instr.instr-index c.instr-item.result c.args.body.now h c.instr-item.is c.as_slice-instr-items.ensures in
    (omega (arith, f, c.decreases), tt)
