use Rattle.std.proofs.Common.{◌≡◌, ◌≤◌, take, reverse, length}
use Rattle.validate.specs.inside.Stack.{take_all}
use Rattle.validate.specs.inside.Answers.{stack_of}
use Rattle.validate.proofs.operands.Operands.take_parameters.Given as goal

abbrev pub invariant-loop-left : goal.invariant-loop-left
invariant-loop-left l =
    record {
      within : l.left ≤ length l.parameters;
      taken : take_all (reverse l.parameters) (stack_of l.initial.self) ≡ take_all (reverse (take l.left l.parameters)) (stack_of l.self);
    }

abbrev pub decreases-loop-left : goal.decreases-loop-left
decreases-loop-left l = l.left
