use Rattle.std.proofs.Common.{◌<◌, ◌≤◌, ◌+◌, ◌*◌, ℕ, length}
use Rattle.wat_syntax.specs.inside.ReadingCode.{goes_on, instr_step, inner_at}
use Rattle.wat_syntax.proofs.Repeats.{Onward}
use Rattle.wat_syntax.proofs.parser.code.+parser.Given as goal

abbrev pub decreases-folded : goal.decreases-folded
decreases-folded l = 10 * length l.parser.now.0 + 1

abbrev pub decreases-instruction : goal.decreases-instruction
decreases-instruction l = 10 * length l.parser.now.0 + 1

abbrev pub decreases-instructions : goal.decreases-instructions
decreases-instructions l = 10 * length l.parser.now.0 + 2

abbrev pub decreases-operands : goal.decreases-operands
decreases-operands l = 10 * length l.parser.now.0 + 2

abbrev pub decreases-inner : goal.decreases-inner
decreases-inner l = 10 * length l.parser.now.0 + 3

abbrev pub decreases-ended_body : goal.decreases-ended_body
decreases-ended_body l = 10 * length l.parser.now.0 + 4

abbrev pub decreases-arm : goal.decreases-arm
decreases-arm l = 10 * length l.parser.now.0 + 5

abbrev pub decreases-else_arm : goal.decreases-else_arm
decreases-else_arm l = 10 * length l.parser.now.0 + 3

abbrev pub decreases-other_arm : goal.decreases-other_arm
decreases-other_arm l = 10 * length l.parser.now.0 + 5

abbrev pub decreases-choice : goal.decreases-choice
decreases-choice l = 10 * length l.parser.now.0 + 6

abbrev pub decreases-then_arm : goal.decreases-then_arm
decreases-then_arm l = 10 * length l.parser.now.0 + 6

abbrev pub decreases-folded_else : goal.decreases-folded_else
decreases-folded_else l = 10 * length l.parser.now.0 + 6

abbrev pub decreases-folded_choice : goal.decreases-folded_choice
decreases-folded_choice l = 10 * length l.parser.now.0 + 7

abbrev pub decreases-unfolded : goal.decreases-unfolded
decreases-unfolded l = 10 * length l.parser.now.0 + 8

abbrev pub decreases-linear : goal.decreases-linear
decreases-linear l = 10 * length l.parser.now.0 + 8

abbrev pub invariant-instructions-each : goal.invariant-instructions-each
invariant-instructions-each l = record {
  less : length l.parser.0 ≤ length l.fn.parser.0;
  onward : (n : ℕ) → 0 < l.room.parentheses → Onward goes_on (instr_step n (inner_at l.room.levels n)) (l.fn.instrs.items, l.fn.parser) (l.instrs.items, l.parser);
}

abbrev pub decreases-instructions-each : goal.decreases-instructions-each
decreases-instructions-each l = length l.parser.0

abbrev pub invariant-operands-each : goal.invariant-operands-each
invariant-operands-each l = length l.parser.0 ≤ length l.fn.parser.0

abbrev pub decreases-operands-each : goal.decreases-operands-each
decreases-operands-each l = length l.parser.0
