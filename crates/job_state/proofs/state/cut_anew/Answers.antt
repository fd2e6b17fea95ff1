use Rattle.std.proofs.Common.{List, ap, map, sym, subst, ◌∙◌}
use Rattle.std.proofs.lemmas.Result.{IfOk-weaker}
use Rattle.std.specs.List.Sorted.{IsStrictlyIncreasing}
use Rattle.graph.specs.Partition.{parts_by}
use Rattle.graph.specs.inside.Rising.{order_is}
use Rattle.job_state.specs.Ordering.{by_key}
use Rattle.job_state.specs.State.{state_id}
use Rattle.job_state.specs.declared.state.VertexState.{VertexState}
use Rattle.job_state.proofs.Ordering.{by_key_same}
use Rattle.job_state.proofs.state.cut_anew.Goals as goal

pub returns : goal.returns
returns c =
    let all = c.in_ok-vertices.vertices.items in
    let put = ap (by_key state_id) c.in_ok-vertices.ensures in
    let rising = subst (λ (xs : List VertexState). IsStrictlyIncreasing (map state_id xs)) (sym put) c.requires.rising in
    let sorted = order_is state_id all _ (by_key state_id all) c.in_ok-merge_by_id.ensures.permutation c.in_ok-merge_by_id.ensures.sorted (by_key_same state_id all) rising in
    IfOk-weaker c.with_due.result _ _ (λ found is. is ∙ c.in_ok-cut.ensures ∙ ap (parts_by state_id c.args.parts) (sorted ∙ put)) c.with_due.ensures
