use Rattle.std.proofs.Common.{◌++◌, ◌<◌, ◌≤◌, List, take, length, vec_items, append-nil, ap, sym, ◌∙◌, arith}
use Rattle.std.proofs.lemmas.List.{take_all}
use Rattle.job_state.specs.declared.state.VertexState.{VertexState}
use Rattle.job_state.specs.inside.Filled.{filled}
use Rattle.job_state.specs.inside.DueRows.{due_rows}
use Rattle.job_state.proofs.DueRows.{row_if}
use Rattle.job_state.proofs.Filling.{due_rows_filled, filled_all, filled_more, filled_none}
use Rattle.job_state.proofs.part_states.PartStates.filled.Goals.{then-is_due+in_ok-push, else-is_due}
use Rattle.job_state.proofs.part_states.PartStates.filled.Goals as goal

pub loop-row-init : goal.loop-row-init
loop-row-init c = record {
  filled = filled_none c.self.inside.vertices.items c.args.inboxes.items c.into_iter-inboxes.result.rest.items c.into_iter-inboxes.ensures.rest;
  due = c.clear.ensures.items;
}

pub loop-row-preserved : goal.loop-row-preserved
loop-row-preserved c =
    let vertices = c.loop-row.vertices.items in
    let row = c.loop-row.row in
    let before = c.loop-row.invariant in
    let vertex = c.index_mut-vertex.result.now in
    let changed = c.fill_some.new.vertex in
    let below : row < length vertices = omega (arith, c.loop-row-test.true, before.filled.long, c.self.inside.vertices.ok.0) in
    let more =
    filled_more row c.self.inside.vertices.items c.args.inboxes.items vertices c.loop-row.inboxes.rest.items c.next.new.self.rest.items c.next.result
    vertex changed before.filled below c.next.ensures.items _ c.loop-row.inboxes.rest.ok.0 c.next.ensures.variant c.index_mut-vertex.ensures.value
    c.fill_some.ensures in
    let rows = due_rows_filled vertices row changed below in
    elim c.if-is_due.branch [
      | then-is_due+in_ok-push w ↦ record {
        filled = more;
        due = ap vec_items w.due-is ∙ w.in_ok-push.ensures.items ∙ (λ i. before.due i ++ row_if (w.if-is_due.ensures i) row) ∙ sym rows;
      }
      | else-is_due w ↦ record {
        filled = more;
        due =
            ap vec_items w.due-is ∙ before.due ∙ sym (append-nil (due_rows 0 (take row vertices)))
            ∙ ap (λ due. due_rows 0 (take row vertices) ++ row_if due row) w.if-is_due.ensures ∙ sym rows;
      }
    ]

pub invariant_of-result : goal.invariant_of-result
invariant_of-result c =
    let vertices = c.loop-row.vertices.items in
    c.loop-row.invariant.due
    ∙ ap (due_rows 0) (take_all c.loop-row.row vertices (omega (arith, c.loop-row-test.false, c.loop-row.invariant.filled.long, c.self.inside.vertices.ok.0)))

pub returns : goal.returns
returns c = λ same.
    let over : length c.loop-row.vertices.items ≤ c.loop-row.row =
    omega (arith, c.loop-row-test.false, c.loop-row.invariant.filled.long, c.self.inside.vertices.ok.0) in
    filled_all c.loop-row.row c.self.inside.vertices.items c.args.inboxes.items c.loop-row.vertices.items c.loop-row.inboxes.rest.items
    c.loop-row.invariant.filled over (ap length c.self.view_is ∙ same)
    ∙ ap (λ (vertices : List VertexState). filled (vertices, c.args.inboxes.items)) c.self.view_is
