use Rattle.std.proofs.Common.{length}
use Rattle.interp.proofs.OperandStacks.{held, held_cut}
use Rattle.interp.proofs.Parts.{emptied}
use Rattle.interp.proofs.operands.Operands.empty.Goals as goal

pub returns : goal.returns
returns c =
    let a = c.self.inside in
    let xs = held a.top a.cells.items in
    emptied (length a.cells.items) a.floor xs (held a.floor a.cells.items) c.args.self.now c.self.view_is (held_cut a.floor a.top a.cells.items c.self.invariant.0)
