use Rattle.std.specs.List.{flat_map}
use Rattle.line_text.specs.TextBuilder.{Gains}
use Rattle.run_report.specs.Words.{mark_of}
use Rattle.run_report.proofs.words.push_words.Given as goal

abbrev pub invariant-loop-letter : goal.invariant-loop-letter
invariant-loop-letter l = Gains l.initial.text l.text (flat_map mark_of l.yielded)
