use Rattle.std.proofs.Common.{ap, ◌∙◌}
use Rattle.graph.specs.Partition.{parts_by}
use Rattle.job_state.specs.State.{Standing, state_id}
use Rattle.job_state.proofs.state.State.into_parts.Goals as goal

pub returns-clause-parts : goal.returns-clause-parts
returns-clause-parts c = c.in_ok-cut.ensures ∙ ap (λ (state : Standing). parts_by state_id c.args.parts state.vertices) c.self.view_is
