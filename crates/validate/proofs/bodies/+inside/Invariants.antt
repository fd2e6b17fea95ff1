use Rattle.std.proofs.Common.{◌≡◌, ◌++◌, ◌∷◌, [], drop}
use Rattle.wasm_ast.specs.View.{code_of}
use Rattle.verified.specs.Instructions.{with_label}
use Rattle.validate.specs.inside.Stack.{bottom}
use Rattle.validate.specs.inside.Steps.{run}
use Rattle.validate.specs.inside.Answers.{stack_of, context_of}
use Rattle.validate.proofs.bodies.+inside.Given as goal

abbrev pub decreases-check_inside : goal.decreases-check_inside
decreases-check_inside l = goal.size-check_inside l

abbrev pub decreases-check_instr : goal.decreases-check_instr
decreases-check_instr l = goal.size-check_instr l

abbrev pub invariant-check_inside-loop-instr : goal.invariant-check_inside-loop-instr
invariant-check_inside-loop-instr l =
    let inner = with_label l.fn.label (context_of l.context l.fn.scope) in
    record {
      kept : l.scope.labels.items ≡ l.fn.scope.labels.items ++ l.fn.label ∷ [];
      runs : run (code_of l.instr-items) inner bottom ≡ run (code_of (drop l.instr-index l.instr-items)) inner (stack_of l.operands);
    }
