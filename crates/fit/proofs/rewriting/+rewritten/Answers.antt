use Rattle.std.proofs.Common.{◌<◌, length, arith}
use Rattle.wasm_ast.specs.Falls.{item_falls}
use Rattle.fit.proofs.rewriting.+rewritten.Goals as goal

pub rewritten-push_rewritten-requires : goal.rewritten-push_rewritten-requires
rewritten-push_rewritten-requires t c =
    let is = c.as_slice-instr-items.result.now in
    let h : c.loop-instr.instr-index < length is = omega arith in
    let f = item_falls is c.loop-instr.instr-index c.instr-item.result c.args.body.now h c.instr-item.is c.as_slice-instr-items.ensures in
    (omega (arith, f, c.decreases), tt)
