use Rattle.std.proofs.Common.{length, sym}
use Rattle.interp.proofs.Parts.{opened}
use Rattle.interp.proofs.OperandStacks.{held, held_long}
use Rattle.interp.proofs.operands.Operands.open.Goals as goal

pub returns : goal.returns
returns c =
    let a = c.self.inside in
    opened (length a.cells.items) a.floor a.top (held a.top a.cells.items) c.args.self.now c.self.view_is (sym (held_long a.top a.cells.items c.self.invariant.1))
