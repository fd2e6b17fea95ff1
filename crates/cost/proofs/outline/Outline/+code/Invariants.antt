use Rattle.std.proofs.Common.{◌≡◌, drop}
use Rattle.wasm_ast.specs.View.{code_of}
use Rattle.cost.specs.inside.Outline.{with_code}
use Rattle.cost.proofs.outline.Outline.+code.Given as goal

abbrev pub decreases-add_code : goal.decreases-add_code
decreases-add_code l = goal.size-add_code l

abbrev pub decreases-add_instr : goal.decreases-add_instr
decreases-add_instr l = goal.size-add_instr l

abbrev pub invariant-add_code-loop-instr : goal.invariant-add_code-loop-instr
invariant-add_code-loop-instr l =
    with_code l.weights l.fn.self (code_of l.instr-items) ≡ with_code l.weights l.self (code_of (drop l.instr-index l.instr-items))
