use Rattle.std.proofs.Common.{◌≡◌, map, vec_items}
use Rattle.job_state.proofs.state.with_due.Given as goal

abbrev pub invariant-loop-vertices : goal.invariant-loop-vertices
invariant-loop-vertices l = l.parts.items ≡ map vec_items l.yielded
