use Rattle.std.proofs.Common.{◌≡◌, drop}
use Rattle.validate.specs.inside.Stack.{take_all}
use Rattle.validate.specs.inside.Answers.{stack_of}
use Rattle.validate.proofs.operands.Operands.take_all.Given as goal

abbrev pub invariant-loop-expected : goal.invariant-loop-expected
invariant-loop-expected l =
    take_all l.taken (stack_of l.initial.self) ≡ take_all (drop l.expected-index l.taken) (stack_of l.self)
