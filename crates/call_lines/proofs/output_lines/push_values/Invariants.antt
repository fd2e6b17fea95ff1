use Rattle.std.proofs.Common.{take}
use Rattle.line_text.specs.TextBuilder.{Gains}
use Rattle.graph.specs.Print.{value_lines}
use Rattle.call_lines.proofs.output_lines.push_values.Given as goal

abbrev pub invariant-loop-id : goal.invariant-loop-id
invariant-loop-id l = Gains l.initial.text l.text (value_lines (take l.id-index l.values))
