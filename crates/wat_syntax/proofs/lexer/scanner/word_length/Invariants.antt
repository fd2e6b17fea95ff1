use Rattle.std.proofs.Common.{◌≡◌, ◌+◌, ◌≤◌, ◌-◌, length, drop}
use Rattle.std.specs.List.{prefix_len}
use Rattle.wat_syntax.specs.Words.{is_word}
use Rattle.wat_syntax.proofs.lexer.scanner.word_length.Given as goal

abbrev pub invariant-each : goal.invariant-each
invariant-each l = (l.count ≤ length l.text) × (prefix_len is_word l.text ≡ l.count + prefix_len is_word (drop l.count l.text))

abbrev pub decreases-each : goal.decreases-each
decreases-each l = length l.text - l.count
