use Rattle.std.proofs.Common.{◌≡◌, map, take}
use Rattle.plain_run.specs.inside.OneMachine.{value_in}
use Rattle.plain_run.proofs.machine.values_of.Given as goal

abbrev pub invariant-loop-held : goal.invariant-loop-held
invariant-loop-held l = l.values.items ≡ map value_in (take l.held-index l.vertices)
