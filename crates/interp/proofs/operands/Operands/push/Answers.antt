use Rattle.std.proofs.Common.{◌+◌, length, ap, ◌∙◌}
use Rattle.std.specs.Prelude.{slice_set}
use Rattle.std.proofs.lemmas.List.{length-set}
use Rattle.interp.proofs.Parts.{below_of}
use Rattle.interp.proofs.OperandStacks.{held, pushed_below, pushed_here, spare_of}
use Rattle.interp.proofs.operands.Operands.push.Goals as goal

pub returns-clause-here : goal.returns-clause-here
returns-clause-here c =
    let a = c.self.inside in
    let cells = a.cells.items in
    let less = spare_of (length cells) a.floor a.top cells c.args.self.now c.self.view_is c.self.invariant.0 c.self.invariant.1 c.requires in
    pushed_here (length cells) a.floor a.top c.args.self.now cells c.self.view_is c.self.invariant.0 less c.args.cell

pub returns-clause-below : goal.returns-clause-below
returns-clause-below c =
    let a = c.self.inside in
    let cells = a.cells.items in
    let less = spare_of (length cells) a.floor a.top cells c.args.self.now c.self.view_is c.self.invariant.0 c.self.invariant.1 c.requires in
    ap (λ r. below_of r a.floor (held (a.top + 1) (slice_set cells a.top c.args.cell))) (length-set cells a.top c.args.cell)
    ∙ pushed_below (length cells) a.floor a.top c.args.self.now cells c.self.view_is c.self.invariant.0 less c.args.cell
