use Rattle.std.proofs.Common.{◌≡◌, List, [], ◌∷◌, ap, ◌∙◌}
use Rattle.job_state.specs.State.{in_order, state_id}
use Rattle.job_state.specs.Totals.{standing_of}
use Rattle.job_state.specs.declared.state.VertexState.{VertexState}
use Rattle.job_state.proofs.Ordering.{one_part_is, one_part_is_kept}
use Rattle.job_state.proofs.state.State.of.Goals as goal

-- the one part
part : (c : goal.In_ok-parts) → c.in_ok-parts.parts.items ≡ c.args.vertices.items ∷ []
part c =
    c.in_ok-parts.ensures.items ∙ ap (λ (own : List VertexState). own ∷ []) c.in_ok-states.ensures

pub of_parts-requires : goal.of_parts-requires
of_parts-requires c =
    let vertices = c.args.vertices.items in
    let whole : in_order (vertices ∷ []) ≡ vertices = one_part_is state_id vertices c.requires.rising in
    rw (part c) (record {
      state = rw whole c.requires;
      parts = one_part_is_kept state_id vertices c.requires.rising;
    })

pub returns : goal.returns
returns c =
    c.of_parts.ensures
    ∙ ap (λ (parts : List (List VertexState)). standing_of c.args.totals c.args.aggregates (in_order parts)) (part c.before)
    ∙ ap (standing_of c.args.totals c.args.aggregates) (one_part_is state_id c.args.vertices.items c.requires.rising)
