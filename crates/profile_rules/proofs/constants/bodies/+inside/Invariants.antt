use Rattle.std.proofs.Common.{◌≡◌, ◌++◌, ◌∷◌, [], drop, reverse}
use Rattle.wasm_ast.specs.View.{code_of}
use Rattle.profile_rules.specs.inside.Tracking.{operands_of, check}
use Rattle.profile_rules.proofs.constants.bodies.+inside.Given as goal

abbrev pub decreases-check_inside : goal.decreases-check_inside
decreases-check_inside l = goal.size-check_inside l

abbrev pub decreases-check_instr : goal.decreases-check_instr
decreases-check_instr l = goal.size-check_instr l

abbrev pub invariant-check_inside-loop-instr : goal.invariant-check_inside-loop-instr
invariant-check_inside-loop-instr l =
    let labels = l.fn.label ∷ reverse l.fn.scope.labels.items in
    record {
      kept : l.scope.labels.items ≡ l.fn.scope.labels.items ++ l.fn.label ∷ [];
      checks : check (code_of l.instr-items) l.setting labels [] ≡ check (code_of (drop l.instr-index l.instr-items)) l.setting labels (operands_of l.operands);
    }
