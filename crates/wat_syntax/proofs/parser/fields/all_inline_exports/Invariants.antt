use Rattle.std.proofs.Common.{◌≤◌, length}
use Rattle.wat_syntax.proofs.parser.fields.all_inline_exports.Given as goal

abbrev pub invariant-each : goal.invariant-each
invariant-each l = length l.parser.0 ≤ length l.fn.parser.0

abbrev pub decreases-each : goal.decreases-each
decreases-each l = length l.parser.0
