use Rattle.std.proofs.Common.{◌↔◌, drop}
use Rattle.wasm_ast.specs.View.{code_of}
use Rattle.wasm_ast.specs.Limits.{IsCodeWithin}
use Rattle.wasm_ast.proofs.limits.+code.Given as goal

abbrev pub decreases-is_code_within : goal.decreases-is_code_within
decreases-is_code_within l = goal.size-is_code_within l

abbrev pub decreases-is_instr_within : goal.decreases-is_instr_within
decreases-is_instr_within l = goal.size-is_instr_within l

-- what was looked at is within the limits, so all is where the rest is
abbrev pub invariant-is_code_within-loop-instr : goal.invariant-is_code_within-loop-instr
invariant-is_code_within-loop-instr l =
    IsCodeWithin l.levels (code_of l.instr-items) ↔ IsCodeWithin l.levels (code_of (drop l.instr-index l.instr-items))
