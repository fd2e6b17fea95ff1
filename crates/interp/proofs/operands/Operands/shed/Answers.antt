use Rattle.std.proofs.Common.{◌-◌, length, take, sym, ap, ◌∙◌, arith}
use Rattle.interp.proofs.Parts.{shed_is, top_fits}
use Rattle.interp.proofs.OperandStacks.{floor_held, held, held_cut, held_long}
use Rattle.interp.proofs.operands.Operands.shed.Goals as goal

pub returns : goal.returns
returns c =
    let a = c.self.inside in
    let cells = a.cells.items in
    let xs = held a.top cells in
    let h = held_long a.top cells c.self.invariant.1 in
    shed_is (length cells) a.floor c.args.count xs (held (a.top - c.args.count) cells) c.args.self.now c.self.view_is (floor_held a.floor a.top cells c.self.invariant.0 c.self.invariant.1) (top_fits (length cells) a.floor c.args.count xs c.args.self.now c.self.view_is c.requires)
    (held_cut (a.top - c.args.count) a.top cells (omega arith) ∙ ap (λ n. take (n - c.args.count) xs) (sym h))
