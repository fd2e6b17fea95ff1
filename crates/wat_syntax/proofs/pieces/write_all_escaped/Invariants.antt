use Rattle.std.proofs.Common.{take}
use Rattle.line_text.specs.TextBuilder.{Gains}
use Rattle.wat_syntax.specs.Quoted.{quoted}
use Rattle.wat_syntax.proofs.pieces.write_all_escaped.Given as goal

abbrev pub invariant-loop-b : goal.invariant-loop-b
invariant-loop-b l = Gains l.fn.text l.text (quoted (take l.b-index l.bytes))
