use Rattle.std.proofs.Common.{◌≤◌, length, arith}
use Rattle.interp.proofs.Parts.{floor_below, join_below, join_here}
use Rattle.interp.proofs.OperandStacks.{floor_held, held}
use Rattle.interp.proofs.operands.Operands.join.Goals as goal

pub invariant_of-self : goal.invariant_of-self
invariant_of-self c =
    let a = c.self.inside in
    let lower : c.args.floor ≤ a.floor = floor_below (length a.cells.items) a.floor c.args.floor (held a.top a.cells.items) c.args.self.now c.self.view_is (floor_held a.floor a.top a.cells.items c.self.invariant.0 c.self.invariant.1) c.requires in
    (omega (arith, lower, c.self.invariant.0), c.self.invariant.1)

pub returns-clause-here : goal.returns-clause-here
returns-clause-here c =
    let a = c.self.inside in
    join_here (length a.cells.items) a.floor c.args.floor (held a.top a.cells.items) c.args.self.now c.self.view_is (floor_held a.floor a.top a.cells.items c.self.invariant.0 c.self.invariant.1) c.requires

pub returns-clause-below : goal.returns-clause-below
returns-clause-below c =
    let a = c.self.inside in
    join_below (length a.cells.items) a.floor c.args.floor (held a.top a.cells.items) c.args.self.now c.self.view_is (floor_held a.floor a.top a.cells.items c.self.invariant.0 c.self.invariant.1) c.requires
