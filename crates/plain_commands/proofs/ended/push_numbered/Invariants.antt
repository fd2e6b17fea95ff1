use Rattle.std.proofs.Common.{take}
use Rattle.line_text.specs.TextBuilder.{Gains}
use Rattle.call_lines.specs.OutputLines.{numbered_lines}
use Rattle.plain_commands.proofs.ended.push_numbered.Given as goal

abbrev pub invariant-loop-index : goal.invariant-loop-index
invariant-loop-index l = Gains l.initial.text l.text (numbered_lines l.word l.first (take l.index l.units))
