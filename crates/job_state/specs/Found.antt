-- What a task finds in its part, vertex by vertex.
use Rattle.std.specs.Prelude.{ℕ, ◌+◌, ◌-◌, ◌^◌, length, min, if◌then◌else◌}
use Rattle.job_state.specs.declared.found.Found.{Found}
use Rattle.job_state.specs.declared.state.VertexState.{VertexState}
use Rattle.job_state.specs.State.{is_due}

-- nothing, before the first vertex
abbrev pub nothing_found : Found
nothing_found = record { called = 0; received = 0 }

-- counts stop at the greatest number of 64 bits
abbrev pub capped_count : ℕ → ℕ
capped_count count = min count (2 ^ 64 - 1)

-- what is found with one more vertex: it is called where it is active or has messages
abbrev pub with_vertex : Found → VertexState → Found
with_vertex found vertex = if is_due vertex
    then record { called = capped_count (found.called + 1); received = capped_count (found.received + length vertex.inbox) }
    else found
