use Rattle.std.proofs.Common.{◌≡◌, ◌<◌, ℕ, get_or, map}
use Rattle.job_state.specs.State.{state_id}
use Rattle.book.proofs.saving.have_ids.Given as goal

abbrev pub invariant-loop-i : goal.invariant-loop-i
invariant-loop-i l =
    (k : ℕ) → k < l.i → get_or (map state_id (map (λ vertex. vertex.now) l.vertices)) k 0 ≡ get_or l.ids k 0
