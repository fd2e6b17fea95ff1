use Rattle.validate.specs.inside.Answers.{base_of}
use Rattle.validate.proofs.Stacks.{take_popped}
use Rattle.validate.proofs.Refusals.{none_but}
use Rattle.validate.proofs.operands.Operands.take.Goals as goal

pub returns-then-is_of_type : goal.returns-then-is_of_type
returns-then-is_of_type c =
    take_popped c.args.expected (base_of c.args.self.now.is_unreachable) _ _ _ _ c.in-Some.ensures.items c.if-is_of_type.ensures

pub returns-else-is_of_type : goal.returns-else-is_of_type
returns-else-is_of_type c =
    none_but _ _ _ _ c.from.ensures (take_popped c.args.expected (base_of c.args.self.now.is_unreachable) _ c.pop.new.self.items _ _ c.in-Some.ensures.items c.if-is_of_type.ensures)
