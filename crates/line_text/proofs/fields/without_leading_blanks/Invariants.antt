use Rattle.std.proofs.Common.{◌≡◌, length}
use Rattle.line_text.specs.Fields.{fields}
use Rattle.line_text.proofs.fields.without_leading_blanks.Given as goal

abbrev pub invariant-loop-first : goal.invariant-loop-first
invariant-loop-first l = fields l.rest ≡ fields l.line

abbrev pub decreases-loop-first : goal.decreases-loop-first
decreases-loop-first l = length l.rest
