use Rattle.superstep.proofs.task.Done.copy.Goals as goal

pub invariant_of-result : goal.invariant_of-result
invariant_of-result g c = rw (c.in_ok-vertices.ensures, c.in_ok-letters.ensures) c.self.invariant
