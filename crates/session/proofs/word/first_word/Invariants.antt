use Rattle.std.proofs.Common.{◌≡◌, length}
use denote.Shadow.{shadow}
use denote.Text.{Utf8}
use Rattle.session.specs.Words.{words_of}
use Rattle.session.proofs.word.first_word.Given as goal

abbrev pub invariant-loop-word : goal.invariant-loop-word
invariant-loop-word l = record { text : shadow (Utf8 l.rest); same : words_of l.rest ≡ words_of l.line }

abbrev pub decreases-loop-word : goal.decreases-loop-word
decreases-loop-word l = length l.rest
