use Rattle.std.proofs.Common.{eqb, not, ap, ◌∙◌, List}
use Rattle.std.specs.List.{list_any}
use Rattle.job_state.specs.declared.state.VertexState.{VertexState}
use Rattle.job_state.specs.State.{is_due}
use Rattle.job_state.proofs.DueRows.{settled_is}
use Rattle.job_state.proofs.part_states.PartStates.is_settled.Goals as goal

pub returns : goal.returns
returns c =
    settled_is c.self.inside.due.items c.self.inside.vertices.items c.is_empty.result c.self.invariant (c.is_empty.ensures ∙ ap (λ n. eqb n 0) c.self.inside.due.ok.0)
    ∙ ap (λ (vertices : List VertexState). not (list_any is_due vertices)) c.self.view_is
