use Rattle.std.proofs.Common.{◌-◌, ◌≤◌, map, length, take, drop, ap, ◌∙◌, arith}
use Rattle.wasm_ast.specs.declared.types.Value.TheVariants.{I64}
use Rattle.interp.proofs.Parts.{top_fits, topmost_is}
use Rattle.interp.proofs.OperandStacks.{floor_held, held, held_long, held_topmost}
use Rattle.interp.proofs.operands.Operands.topmost.Goals as goal

pub returns : goal.returns
returns c =
    let a = c.self.inside in
    let cells = a.cells.items in
    let k = c.args.count in
    let fits = top_fits (length cells) a.floor k (held a.top cells) c.args.self.now c.self.view_is c.requires in
    let within : k ≤ a.top = omega (arith, fits, held_long a.top cells c.self.invariant.1) in
    ap (λ l. map I64 (take (a.top - (a.top - k)) (drop (a.top - k) l))) c.deref.ensures.value
    ∙ held_topmost k a.top cells within c.self.invariant.1
    ∙ topmost_is (length cells) a.floor k (held a.top cells) c.args.self.now c.self.view_is (floor_held a.floor a.top cells c.self.invariant.0 c.self.invariant.1) fits
