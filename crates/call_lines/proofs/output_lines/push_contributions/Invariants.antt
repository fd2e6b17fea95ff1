use Rattle.std.proofs.Common.{take}
use Rattle.std.specs.List.{flat_map}
use Rattle.line_text.specs.TextBuilder.{Gains}
use Rattle.call_lines.specs.OutputLines.{give_line}
use Rattle.call_lines.proofs.output_lines.push_contributions.Given as goal

abbrev pub invariant-loop-aggregator : goal.invariant-loop-aggregator
invariant-loop-aggregator l = Gains l.initial.text l.text (flat_map give_line (take l.aggregator-index l.contributions))
