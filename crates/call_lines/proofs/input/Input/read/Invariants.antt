use Rattle.std.proofs.Common.{length, take}
use Rattle.call_lines.specs.Input.{Says}
use Rattle.call_lines.specs.InputSays.{lines_of}
use Rattle.call_lines.proofs.input.Input.read.Given as goal

abbrev pub invariant-loop-index : goal.invariant-loop-index
invariant-loop-index l = Says (take (length l.yielded) (lines_of l.text)) l.input
