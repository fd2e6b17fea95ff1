use Rattle.line_text.specs.TextBuilder.{Gains}
use Rattle.wat_syntax.specs.Pieces.{indent}
use Rattle.wat_syntax.proofs.pieces.write_indent.Given as goal

abbrev pub invariant-loop : goal.invariant-loop
invariant-loop l = Gains l.fn.text l.text (indent l.counter)
