use Rattle.std.proofs.Common.{length}
use Rattle.wat_syntax.specs.inside.Lexing.{IsLeft}
use Rattle.wat_syntax.proofs.lexer.scanner.comment.Given as goal

abbrev pub invariant-each : goal.invariant-each
invariant-each l = IsLeft l.text l.rest

abbrev pub decreases-each : goal.decreases-each
decreases-each l = length l.rest
