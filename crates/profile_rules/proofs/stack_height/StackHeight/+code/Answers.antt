use Rattle.std.proofs.Common.{◌<◌, length, arith}
use Rattle.wasm_ast.specs.Falls.{item_falls}
use Rattle.profile_rules.proofs.stack_height.StackHeight.+code.Goals as goal

pub most_along-add_instr-requires : goal.most_along-add_instr-requires
most_along-add_instr-requires t c =
    let h : c.loop-instr.instr-index < length c.as_slice-instr-items.result.now = omega arith in
    let f = item_falls c.as_slice-instr-items.result.now c.loop-instr.instr-index c.instr-item.result c.args.body.now h c.instr-item.is c.as_slice-instr-items.ensures in
    (omega (arith, f, c.decreases), tt)
