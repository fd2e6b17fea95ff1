use Rattle.std.proofs.Common.{◌≡◌, take}
use Rattle.job_state.proofs.state.copied.Given as goal

abbrev pub invariant-loop-vertex : goal.invariant-loop-vertex
invariant-loop-vertex l = l.copies.items ≡ take l.vertex-index l.vertices
