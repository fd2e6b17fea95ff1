use Rattle.std.proofs.Common.{length, ◌-◌}
use Rattle.line_text.proofs.Writing.{IsWritten}
use Rattle.line_text.proofs.output.write_all.Given as goal

abbrev pub invariant-loop-done : goal.invariant-loop-done
invariant-loop-done g l = IsWritten (g.O.Output.contents l.initial.out) (g.O.Output.contents l.out) l.bytes l.done

abbrev pub decreases-loop-done : goal.decreases-loop-done
decreases-loop-done g l = length l.bytes - l.done
