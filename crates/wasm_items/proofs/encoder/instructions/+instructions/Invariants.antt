use Rattle.std.proofs.Common.{◌≡◌, ◌++◌, ◌+◌, ◌*◌, drop, max}
use Rattle.wasm_ast.specs.Code.{size_of}
use Rattle.wasm_ast.specs.View.{code_of}
use Rattle.wasm_ast.specs.declared.body.Body.TheDeep.{deep-Instr}
use Rattle.wasm_items.specs.Canonical.{code_bytes}
use Rattle.wasm_items.proofs.encoder.instructions.+instructions.Given as goal

abbrev pub decreases-write_body : goal.decreases-write_body
decreases-write_body l = 3 * size_of l.body.now

abbrev pub decreases-write_instr : goal.decreases-write_instr
decreases-write_instr l = 3 * deep-Instr l.instr.now

abbrev pub decreases-write_block : goal.decreases-write_block
decreases-write_block l = 3 * size_of l.body.now + 1

abbrev pub decreases-write_choice : goal.decreases-write_choice
decreases-write_choice l = 3 * max (size_of l.body.now) (size_of l.other.now) + 2

abbrev pub decreases-write_else : goal.decreases-write_else
decreases-write_else l = 3 * size_of l.arm.now + 1

abbrev pub invariant-write_body-loop-instr : goal.invariant-write_body-loop-instr
invariant-write_body-loop-instr l =
    l.out.items ++ code_bytes (code_of (drop l.instr-index l.instr-items)) ≡ l.fn.out.items ++ code_bytes (code_of l.instr-items)
