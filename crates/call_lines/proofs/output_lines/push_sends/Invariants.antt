use Rattle.std.proofs.Common.{take}
use Rattle.std.specs.List.{flat_map}
use Rattle.line_text.specs.TextBuilder.{Gains}
use Rattle.call_lines.specs.OutputLines.{send_line}
use Rattle.call_lines.proofs.output_lines.push_sends.Given as goal

abbrev pub invariant-loop-target : goal.invariant-loop-target
invariant-loop-target l = Gains l.initial.text l.text (flat_map send_line (take l.target-index l.sends))
