use Rattle.std.proofs.Common.{ap}
use Rattle.validate.specs.inside.Stack.{take_any}
use Rattle.validate.specs.inside.Answers.{base_of}
use Rattle.validate.proofs.Stacks.{popped}
use Rattle.validate.proofs.operands.Operands.take_any.Goals as goal

pub returns-in-Some : goal.returns-in-Some
returns-in-Some c go =
    ap (λ s. take_any s go) (popped (base_of c.args.self.now.is_unreachable) _ _ _ c.in-Some.ensures.items)
