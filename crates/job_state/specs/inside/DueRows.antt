-- The rows of a part's due vertices.
use Rattle.std.specs.Prelude.{◌+◌, ℕ, List, [], ◌∷◌, cond}
use Rattle.job_state.specs.declared.state.VertexState.{VertexState}
use Rattle.job_state.specs.State.{is_due}

-- the rows of the vertices that are due, where the first vertex is in this row
abbrev pub due_rows : ℕ → List VertexState → List ℕ
due_rows row [] = []
due_rows row (vertex ∷ vertices) = cond (is_due vertex) (row ∷ due_rows (row + 1) vertices) (due_rows (row + 1) vertices)
