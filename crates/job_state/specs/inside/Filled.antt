-- Vertices that get inboxes.
use Rattle.std.specs.Prelude.{ℤ, List, Option, None, Some, map}
use Rattle.std.specs.List.{zip}
use Rattle.job_state.specs.declared.state.VertexState.{VertexState}

abbrev pub with_inbox : VertexState × List ℤ → VertexState
with_inbox given = record { id = given.0.id; value = given.0.value; active = given.0.active; inbox = given.1 }

-- the vertex with this inbox, if there is one
abbrev pub with_some_inbox : VertexState → Option (List ℤ) → VertexState
with_some_inbox vertex None = vertex
with_some_inbox vertex (Some inbox) = with_inbox (vertex, inbox)

-- the vertices of a part, each with its inbox
abbrev pub filled : List VertexState × List (List ℤ) → List VertexState
filled given = map with_inbox (zip given.0 given.1)
