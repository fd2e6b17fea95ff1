use Rattle.std.specs.List.{AllZip}
use Rattle.superstep.proofs.Deliveries.{IsHanded}
use Rattle.superstep.proofs.barrier_step.all_handed.Given as goal

abbrev pub invariant-loop-pair : goal.invariant-loop-pair
invariant-loop-pair l = AllZip IsHanded l.yielded l.parts.items
