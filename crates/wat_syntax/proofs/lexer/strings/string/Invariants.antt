use Rattle.std.proofs.Common.{◌≡◌, ◌++◌, drop, length, List, ℕ, Some}
use Rattle.wat_syntax.specs.inside.Strings.{string_of}
use Rattle.wat_syntax.proofs.lexer.strings.string.Given as goal

abbrev pub invariant-each : goal.invariant-each
invariant-each l = (total : List ℕ) → string_of (drop l.place l.source) ≡ Some total
    → (more : List ℕ) × (string_of l.rest ≡ Some more) × (total ≡ l.bytes.items ++ more)

abbrev pub decreases-each : goal.decreases-each
decreases-each l = length l.rest
