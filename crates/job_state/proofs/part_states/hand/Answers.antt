use Rattle.std.proofs.Common.{◌≡◌, ◌<◌, ◌++◌, ◌∷◌, [], ℕ, true, false, List, get_or, length, set, vec_items, ap, sym, subst, ◌∙◌, arith}
use Rattle.std.specs.List.Sorted.{IsPermutation}
use Rattle.job_state.specs.declared.state.VertexState.{VertexState}
use Rattle.job_state.specs.State.{is_due}
use Rattle.job_state.specs.inside.Filled.{with_inbox}
use Rattle.job_state.specs.inside.DueRows.{due_rows}
use Rattle.job_state.specs.inside.Handed.{put_inbox}
use Rattle.job_state.proofs.Handing.{now_listed, put_is_set, put_none_is, put_past_is, put_some_is, still_due}
use Rattle.job_state.proofs.Tests.{test_false, test_true}
use Rattle.job_state.proofs.part_states.hand.Goals.{then-row-len-via-then-row-len, then-row-len-via-else-row-len+then-is_empty, then-not-is_due+in_ok-push, else-not-is_due}
use Rattle.job_state.proofs.part_states.hand.Goals as goal

pub returns-then-row-len-clause-handed : goal.returns-then-row-len-clause-handed
returns-then-row-len-clause-handed c =
    let vertices = c.args.vertices.now.items in
    let row = c.args.arrival.row in
    let inbox = c.args.arrival.inbox in
    elim c.then-row-len.branch [
      | then-row-len-via-then-row-len w ↦ sym (put_past_is row inbox vertices (omega (arith, w.if-row-len.true, c.args.vertices.now.ok.0)))
      | then-row-len-via-else-row-len+then-is_empty w ↦
          sym (put_none_is row inbox vertices (test_true w.as_slice.result.now inbox w.is_empty.result w.as_slice.ensures w.is_empty.ensures w.if-is_empty.true))
    ]

pub returns-clause-handed : goal.returns-clause-handed
returns-clause-handed c =
    let vertices = c.args.vertices.now.items in
    let row = c.args.arrival.row in
    let inbox = c.args.arrival.inbox in
    let vertex = c.index_mut-vertex.result.now in
    let some : 0 < length inbox = test_false c.as_slice.result.now inbox c.is_empty.result c.as_slice.ensures c.is_empty.ensures c.if-is_empty.false in
    let below : row < length vertices = omega (arith, c.if-row-len.false, c.args.vertices.now.ok.0) in
    put_is_set row inbox vertices vertex c.fill.new.self below (c.fill.ensures ∙ ap (λ (v : VertexState). with_inbox (v, inbox)) c.index_mut-vertex.ensures.value)
    ∙ sym (put_some_is row inbox vertices some)

pub returns-clause-due : goal.returns-clause-due
returns-clause-due c = λ listed.
    let vertices = c.args.vertices.now.items in
    let due = c.args.due.now.items in
    let row = c.args.arrival.row in
    let inbox = c.args.arrival.inbox in
    let vertex = c.index_mut-vertex.result.now in
    let some : 0 < length inbox = test_false c.as_slice.result.now inbox c.is_empty.result c.as_slice.ensures c.is_empty.ensures c.if-is_empty.false in
    let below : row < length vertices = omega (arith, c.if-row-len.false, c.args.vertices.now.ok.0) in
    let put : set vertices row c.fill.new.self ≡ put_inbox row inbox vertices = put_is_set row inbox vertices vertex c.fill.new.self below (c.fill.ensures ∙ ap (λ (v : VertexState). with_inbox (v, inbox)) c.index_mut-vertex.ensures.value) in
    elim c.if-not-is_due.branch [
      | then-not-is_due+in_ok-push w ↦
          let idle : is_due (get_or vertices row vertex) ≡ false = ap is_due (sym c.index_mut-vertex.ensures.value) ∙ sym w.if-not-is_due.ensures in
          subst (λ rows. IsPermutation rows (due_rows 0 (set vertices row c.fill.new.self))) (sym (ap vec_items w.due-is ∙ w.in_ok-push.ensures.items))
          (subst (λ (all : List VertexState). IsPermutation (due ++ row ∷ []) (due_rows 0 all)) (sym put) (now_listed vertices row inbox vertex due some below idle listed))
      | else-not-is_due w ↦
          let busy : is_due (get_or vertices row vertex) ≡ true = ap is_due (sym c.index_mut-vertex.ensures.value) ∙ sym w.if-not-is_due.ensures in
          subst (λ rows. IsPermutation rows (due_rows 0 (set vertices row c.fill.new.self))) (sym (ap vec_items w.due-is))
          (subst (λ (rows : List ℕ). IsPermutation due rows) (sym (ap (due_rows 0) put ∙ still_due 0 vertices row inbox vertex some below busy)) listed)
    ]
