use Rattle.std.proofs.Common.{◌≤◌, length}
use Rattle.wat_syntax.proofs.parser.tokens.Parser.later_types.Given as goal

abbrev pub invariant-each : goal.invariant-each
invariant-each l = length l.self.0 ≤ length l.fn.self.0

abbrev pub decreases-each : goal.decreases-each
decreases-each l = length l.self.0
