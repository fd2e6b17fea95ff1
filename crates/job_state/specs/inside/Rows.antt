-- Vertices in the lists of their parts, as the code has them.
use Rattle.std.specs.Prelude.{◌≡◌, List, length}
use Rattle.graph.specs.Partition.{parts_by}
use Rattle.job_state.specs.declared.state.VertexState.{VertexState}
use Rattle.job_state.specs.State.{IsState, Standing, state_id}

-- What always holds for a state's parts: they are the parts of its vertices.
pub record IsKept (standing : Standing) (lists : List (List VertexState)) : Type 0 where
  pub state : IsState standing
  pub parts : lists ≡ parts_by state_id (length lists) standing.vertices
