use Rattle.std.specs.Bool.{⊤}
use Rattle.fit.proofs.rewriting.+rewritten.Given as goal

abbrev pub decreases-push_rewritten : goal.decreases-push_rewritten
decreases-push_rewritten l = goal.size-push_rewritten l

abbrev pub decreases-rewritten : goal.decreases-rewritten
decreases-rewritten l = goal.size-rewritten l

abbrev pub invariant-rewritten-loop-instr : goal.invariant-rewritten-loop-instr
invariant-rewritten-loop-instr l = ⊤
