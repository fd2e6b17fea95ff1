use Rattle.std.proofs.Common.{length, map}
use Rattle.std.specs.Str.Lines.{lines}
use Rattle.plain_commands.specs.StepLine.{step_line_of}
use Rattle.plain_commands.proofs.StepLines.{HaveRead}
use Rattle.plain_commands.proofs.steps.steps_of.Given as goal

abbrev pub invariant-loop-index : goal.invariant-loop-index
invariant-loop-index l = HaveRead (map step_line_of (lines l.text)) (length l.yielded) l.steps.items
