use Rattle.std.proofs.Common.{◌≡◌, length, List, ℕ, Some}
use Rattle.wat_syntax.specs.inside.Lexing.{IsLeft}
use Rattle.wat_syntax.specs.inside.Strings.{plain, quote_at}
use Rattle.wat_syntax.proofs.lexer.strings.behind.Given as goal

abbrev pub invariant-each : goal.invariant-each
invariant-each l = IsLeft l.text l.rest
    × ((bytes after : List ℕ) → quote_at plain l.text ≡ Some (bytes, after) → (more : List ℕ) × (quote_at plain l.rest ≡ Some (more, after)))

abbrev pub decreases-each : goal.decreases-each
decreases-each l = length l.rest
