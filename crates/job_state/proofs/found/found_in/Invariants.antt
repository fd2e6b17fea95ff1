use Rattle.std.proofs.Common.{drop}
use Rattle.job_state.proofs.DueFound.{IsCounting}
use Rattle.job_state.proofs.found.found_in.Given as goal

abbrev pub invariant-loop-row : goal.invariant-loop-row
invariant-loop-row l = IsCounting l.vertices (drop l.row-index l.due) l.found
