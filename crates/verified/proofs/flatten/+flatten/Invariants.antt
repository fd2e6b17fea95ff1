use Rattle.std.proofs.Common.{◌≡◌, drop}
use Rattle.wasm_ast.specs.View as syntax
use Rattle.verified.specs.View.{code_before}
use Rattle.verified.proofs.flatten.+flatten.Given as goal

abbrev pub decreases-flat_body : goal.decreases-flat_body
decreases-flat_body l = goal.size-flat_body l

abbrev pub decreases-flat_instr : goal.decreases-flat_instr
decreases-flat_instr l = goal.size-flat_instr l

abbrev pub invariant-flat_body-loop-instr : goal.invariant-flat_body-loop-instr
invariant-flat_body-loop-instr l =
    code_before l.flat.items (syntax.code_of (drop l.instr-index l.instrs)) ≡ syntax.code_of l.instrs
