use Rattle.std.specs.Io.KnownBytes.{Keeps}
use Rattle.line_text.proofs.output.some_written.Given as goal

abbrev pub invariant-loop-turn : goal.invariant-loop-turn
invariant-loop-turn g l = Keeps (g.W.Write.contents l.initial.out) (g.W.Write.contents l.out)
