use Rattle.std.proofs.Common.{◌≡◌, drop}
use Rattle.wasm_ast.specs.View.{code_of}
use Rattle.profile_rules.specs.inside.StackHeights.{ground_level, with_code}
use Rattle.profile_rules.proofs.stack_height.StackHeight.+code.Given as goal

abbrev pub decreases-most_along : goal.decreases-most_along
decreases-most_along l = goal.size-most_along l

abbrev pub decreases-add_instr : goal.decreases-add_instr
decreases-add_instr l = goal.size-add_instr l

abbrev pub invariant-most_along-loop-instr : goal.invariant-most_along-loop-instr
invariant-most_along-loop-instr l =
    with_code l.callees.arities.now l.callees.heights.now ground_level (code_of l.instr-items) ≡ with_code l.callees.arities.now l.callees.heights.now l.stack_height (code_of (drop l.instr-index l.instr-items))
