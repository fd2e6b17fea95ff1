use Rattle.superstep.specs.inside.Barrier.{IsGathered}
use Rattle.superstep.proofs.barrier_step.gather.Given as goal

abbrev pub invariant-loop-done : goal.invariant-loop-done
invariant-loop-done g l = IsGathered g.J.Origin.work g.J.Origin.honest l.yielded l.gathered
