-- Inboxes handed to the vertices in some rows.
use Rattle.std.specs.Prelude.{◌≡◌, ℕ, zero, suc, ℤ, List, [], ◌∷◌}
use Rattle.inbox.specs.declared.arrivals.Arrival.{Arrival}
use Rattle.job_state.specs.declared.state.VertexState.{VertexState}
use Rattle.job_state.specs.inside.Filled.{with_inbox}

-- its inbox is empty
abbrev pub HasNoInbox : VertexState → Type 0
HasNoInbox vertex = vertex.inbox ≡ []

-- the vertices, of which the one in this row has this inbox
abbrev pub put_inbox : ℕ → List ℤ → List VertexState → List VertexState
put_inbox row inbox [] = []
put_inbox zero inbox (vertex ∷ vertices) = with_inbox (vertex, inbox) ∷ vertices
put_inbox (suc row) inbox (vertex ∷ vertices) = vertex ∷ put_inbox row inbox vertices

-- an empty inbox changes nothing
abbrev pub put_some : ℕ → List ℤ → List VertexState → List VertexState
put_some row [] vertices = vertices
put_some row (message ∷ messages) vertices = put_inbox row (message ∷ messages) vertices

-- the vertices, of which one is handed an inbox
abbrev pub handed : List VertexState → Arrival → List VertexState
handed vertices arrival = put_some arrival.row arrival.inbox vertices
