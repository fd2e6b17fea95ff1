use Rattle.interp.proofs.OperandStacks.{operand_stack_on}
use Rattle.interp.proofs.operand_stack.push.Goals as goal

pub returns-clause-here : goal.returns-clause-here
returns-clause-here c = operand_stack_on c.args.cells.now c.args.top c.args.cell c.requires
