use Rattle.std.specs.Bool.{⊤}
use Rattle.fit.proofs.moving.+moved.Given as goal

abbrev pub decreases-moved_body : goal.decreases-moved_body
decreases-moved_body l = goal.size-moved_body l

abbrev pub decreases-moved_instr : goal.decreases-moved_instr
decreases-moved_instr l = goal.size-moved_instr l

abbrev pub invariant-moved_body-loop-instr : goal.invariant-moved_body-loop-instr
invariant-moved_body-loop-instr l = ⊤
