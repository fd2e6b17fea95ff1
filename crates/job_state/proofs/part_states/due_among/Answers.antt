use Rattle.std.proofs.Common.{◌++◌, take, vec_items, append-nil, ap, sym, ◌∙◌}
use Rattle.job_state.specs.State.{is_due}
use Rattle.job_state.specs.inside.DueRows.{due_rows}
use Rattle.job_state.proofs.DueRows.{due_rows_more, row_if}
use Rattle.job_state.proofs.part_states.due_among.Goals.{then-is_due+in_ok-push, else-is_due}
use Rattle.job_state.proofs.part_states.due_among.Goals as goal

pub loop-row-preserved : goal.loop-row-preserved
loop-row-preserved c =
    let vertices = c.args.vertices.now in
    let row = c.loop-row.row in
    let vertex = c.index-vertices-row.result in
    let more = due_rows_more vertices row vertex c.loop-row-test.true in
    elim c.if-is_due.branch [
      | then-is_due+in_ok-push w ↦
          let yes = w.if-is_due.ensures ∙ ap is_due c.index-vertices-row.is in
          ap vec_items w.due-is ∙ w.in_ok-push.ensures.items ∙ (λ i. c.loop-row.invariant i ++ row_if (yes i) row) ∙ sym more
      | else-is_due w ↦
          let no = w.if-is_due.ensures ∙ ap is_due c.index-vertices-row.is in
          ap vec_items w.due-is ∙ c.loop-row.invariant ∙ sym (append-nil (due_rows 0 (take row vertices)))
          ∙ ap (λ due. due_rows 0 (take row vertices) ++ row_if due row) no ∙ sym more
    ]
