use Rattle.std.specs.Bool.{⊤}
use Rattle.fit.proofs.labels.+names.Given as goal

abbrev pub decreases-body_names : goal.decreases-body_names
decreases-body_names l = goal.size-body_names l

abbrev pub decreases-instr_names : goal.decreases-instr_names
decreases-instr_names l = goal.size-instr_names l

abbrev pub invariant-body_names-loop-instr : goal.invariant-body_names-loop-instr
invariant-body_names-loop-instr l = ⊤
