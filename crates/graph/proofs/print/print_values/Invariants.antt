use Rattle.std.proofs.Common.{take}
use Rattle.std.specs.Io.KnownBytes.{Appends}
use Rattle.graph.specs.Print.{value_lines}
use Rattle.graph.proofs.print.print_values.Given as goal

abbrev pub invariant-loop-id : goal.invariant-loop-id
invariant-loop-id g l = Appends (g.O.Output.contents l.initial.out) (g.O.Output.contents l.out) (value_lines (take l.id-index l.values))
