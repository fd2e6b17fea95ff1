use Rattle.validate.specs.inside.Answers.{base_of}
use Rattle.validate.proofs.Stacks.{popped}
use Rattle.validate.proofs.operands.Operands.push.Goals as goal

pub returns : goal.returns
returns c = popped (base_of c.args.self.now.is_unreachable) _ _ _ c.in_ok-push.ensures.items
