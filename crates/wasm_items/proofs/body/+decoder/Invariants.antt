use Rattle.std.proofs.Common.{◌<◌, ◌+◌, ◌*◌, ℕ, length}
use Rattle.wasm_items.specs.inside.ReadingCode.{code_at}
use Rattle.wasm_items.proofs.Nested.{Completes}
use Rattle.wasm_items.proofs.body.+decoder.Given as goal

abbrev pub decreases-else_body : goal.decreases-else_body
decreases-else_body l = 6 * l.levels

abbrev pub decreases-typed_body : goal.decreases-typed_body
decreases-typed_body l = 6 * l.levels

abbrev pub decreases-choice : goal.decreases-choice
decreases-choice l = 6 * l.levels + 1

abbrev pub decreases-after_opcode : goal.decreases-after_opcode
decreases-after_opcode l = 6 * l.levels + 2

abbrev pub decreases-instruction : goal.decreases-instruction
decreases-instruction l = 6 * l.levels + 3

abbrev pub decreases-sequence : goal.decreases-sequence
decreases-sequence l = 6 * l.levels + 4

abbrev pub decreases-ended : goal.decreases-ended
decreases-ended l = 6 * l.levels + 5

abbrev pub invariant-sequence-each : goal.invariant-sequence-each
invariant-sequence-each l = (n : ℕ) → length l.fn.reader < n → Completes l.instrs.items l.levels l.reader (code_at n l.levels l.fn.reader)

abbrev pub decreases-sequence-each : goal.decreases-sequence-each
decreases-sequence-each l = length l.reader
