use Rattle.std.proofs.Common.{◌≡◌, take}
use Rattle.wasm_ast.proofs.copies.+duplicate.Given as goal

abbrev pub decreases-duplicate_body : goal.decreases-duplicate_body
decreases-duplicate_body l = goal.size-duplicate_body l

abbrev pub decreases-duplicate_instr : goal.decreases-duplicate_instr
decreases-duplicate_instr l = goal.size-duplicate_instr l

abbrev pub invariant-duplicate_body-loop-instr : goal.invariant-duplicate_body-loop-instr
invariant-duplicate_body-loop-instr l = l.copies.items ≡ take l.instr-index l.instrs
