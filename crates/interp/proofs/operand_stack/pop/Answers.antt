use Rattle.std.proofs.Common.{◌≡◌, ◌+◌, ◌-◌, ap, ◌∙◌, arith}
use Rattle.interp.specs.inside.OperandStack.{operand_stack}
use Rattle.interp.proofs.OperandStacks.{operand_stack_long, operand_stack_top}
use Rattle.interp.proofs.operand_stack.pop.Goals as goal

pub overflow_sub-below : goal.overflow_sub-below
overflow_sub-below c = omega (arith, operand_stack_long c.args.cells.now c.args.top c.requires.within)

pub bounds-cells-below : goal.bounds-cells-below
bounds-cells-below c = omega (arith, operand_stack_long c.args.cells.now c.args.top c.requires.within)

pub returns-clause-room : goal.returns-clause-room
returns-clause-room c = omega (arith, operand_stack_long c.args.cells.now c.args.top c.requires.within)

pub returns-clause-here : goal.returns-clause-here
returns-clause-here c =
    let n = operand_stack_long c.args.cells.now c.args.top c.requires.within in
    let e : c.args.top ≡ c.args.top - 1 + 1 = omega arith in
    ap (λ k. operand_stack c.args.cells.now k) e ∙ operand_stack_top c.args.cells.now (c.args.top - 1) (omega arith)
