use Rattle.std.proofs.Common.{◌≡◌, [], drop}
use Rattle.wasm_ast.specs.View.{code_of}
use Rattle.bounded_profile.specs.inside.Footprint.{trail, trail_along}
use Rattle.profile_rules.specs.inside.Tracking.{operands_of}
use Rattle.bounded_profile.proofs.footprint.+code.Given as goal

abbrev pub decreases-mark_code : goal.decreases-mark_code
decreases-mark_code l = goal.size-mark_code l

abbrev pub decreases-mark_instr : goal.decreases-mark_instr
decreases-mark_instr l = goal.size-mark_instr l

abbrev pub invariant-mark_code-loop-instr : goal.invariant-mark_code-loop-instr
invariant-mark_code-loop-instr l =
    trail_along l.arities (trail [] l.fn.marks) (code_of l.instr-items) ≡ trail_along l.arities (trail (operands_of l.known) l.marks) (code_of (drop l.instr-index l.instr-items))
