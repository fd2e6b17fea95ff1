use Rattle.std.proofs.Common.{length, arith}
use Rattle.interp.proofs.Parts.{fall_below, fall_here, floor_below}
use Rattle.interp.proofs.OperandStacks.{floor_held, has_spare, held, held_cut, spare_of}
use Rattle.interp.proofs.operands.Operands.fall.Goals as goal

pub invariant_of-self : goal.invariant_of-self
invariant_of-self c =
    let a = c.self.inside in
    (floor_below (length a.cells.items) a.floor c.args.floor (held a.top a.cells.items) c.args.self.now c.self.view_is (floor_held a.floor a.top a.cells.items c.self.invariant.0 c.self.invariant.1) c.requires, omega (arith, c.self.invariant.0, c.self.invariant.1))

pub returns-clause-here : goal.returns-clause-here
returns-clause-here c =
    let a = c.self.inside in
    fall_here (length a.cells.items) a.floor c.args.floor (held a.top a.cells.items) (held a.floor a.cells.items) c.args.self.now c.self.view_is (floor_held a.floor a.top a.cells.items c.self.invariant.0 c.self.invariant.1) c.requires
    (held_cut a.floor a.top a.cells.items c.self.invariant.0)

pub returns-clause-below : goal.returns-clause-below
returns-clause-below c =
    let a = c.self.inside in
    fall_below (length a.cells.items) a.floor c.args.floor (held a.top a.cells.items) (held a.floor a.cells.items) c.args.self.now c.self.view_is (floor_held a.floor a.top a.cells.items c.self.invariant.0 c.self.invariant.1) c.requires
    (held_cut a.floor a.top a.cells.items c.self.invariant.0)

pub returns-clause-spare : goal.returns-clause-spare
returns-clause-spare c spare =
    let a = c.self.inside in
    let less = spare_of (length a.cells.items) a.floor a.top a.cells.items c.args.self.now c.self.view_is c.self.invariant.0 c.self.invariant.1 spare in
    let f = floor_below (length a.cells.items) a.floor c.args.floor (held a.top a.cells.items) c.args.self.now c.self.view_is (floor_held a.floor a.top a.cells.items c.self.invariant.0 c.self.invariant.1) c.requires in
    has_spare (length a.cells.items) c.args.floor a.floor a.cells.items f (omega (arith, c.self.invariant.0, c.self.invariant.1)) (omega (arith, less, c.self.invariant.0))
