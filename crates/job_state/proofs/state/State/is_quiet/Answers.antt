use Rattle.std.proofs.Common.{◌≡◌, ◌+◌, ◌<◌, ◌∷◌, ◌||◌, ℕ, Bool, List, drop, get_or, length, false, not, refl, true, ap, sym, ◌∙◌}
use Rattle.std.specs.List.{list_any}
use Rattle.std.proofs.lemmas.List.{drop_all, drop_more}
use Rattle.std.proofs.lemmas.List.Folds.{list_any-append}
use Rattle.graph.specs.Partition.{joined}
use Rattle.job_state.specs.State.{Standing, in_order, is_due, state_id}
use Rattle.job_state.specs.declared.state.VertexState.{VertexState}
use Rattle.job_state.proofs.Ordering.{any_by_key}
use Rattle.job_state.proofs.state.State.is_quiet.Goals as goal

abbrev any_due : List (List VertexState) → Bool
any_due parts = list_any is_due (joined parts)

settled : (due : Bool) → true ≡ not due → due ≡ false
settled true same = same
settled false same = refl

unsettled : (due : Bool) → false ≡ not due → due ≡ true
unsettled true same = refl
unsettled false same = same

-- what is left is due where its first part or the rest is
rest_due : (parts : List (List VertexState)) (i : ℕ) (part : List VertexState) → i < length parts → part ≡ get_or parts i part
    → any_due (drop i parts) ≡ (list_any is_due part || any_due (drop (i + 1) parts))
rest_due parts i part inside is =
    ap any_due (drop_more parts i part inside ∙ ap (λ first. first ∷ drop (i + 1) parts) (sym is))
    ∙ list_any-append is_due part (joined (drop (i + 1) parts))

pub loop-part-preserved : goal.loop-part-preserved
loop-part-preserved c =
    let parts = c.deref-part-items.result.now in
    let i = c.loop-part.part-index in
    let none : list_any is_due c.part-item.result ≡ false =
    settled (list_any is_due c.part-item.result) c.if-not-is_settled.ensures in
    c.loop-part.invariant
    ∙ rest_due parts i c.part-item.result c.loop-part-test.true c.part-item.is ∙ ap (λ due. due || any_due (drop (i + 1) parts)) none

-- whether any vertex of the state is due
due_in_parts : (state : Standing) (shown parts : List (List VertexState)) → shown ≡ parts → in_order parts ≡ state.vertices
    → list_any is_due state.vertices ≡ any_due shown
due_in_parts state shown parts same all =
    sym (ap (list_any is_due) all) ∙ any_by_key state_id is_due (joined parts) ∙ ap any_due (sym same)

pub returns-then-not-is_settled : goal.returns-then-not-is_settled
returns-then-not-is_settled c =
    let parts = c.deref-part-items.result.now in
    let i = c.loop-part.part-index in
    let some : list_any is_due c.part-item.result ≡ true =
    unsettled (list_any is_due c.part-item.result) c.if-not-is_settled.ensures in
    sym (ap not (due_in_parts c.args.self.now parts _ c.deref-part-items.ensures.value (ap (λ (state : Standing). state.vertices) c.self.view_is) ∙ c.loop-part.invariant
    ∙ rest_due parts i c.part-item.result c.loop-part-test.true c.part-item.is ∙ ap (λ due. due || any_due (drop (i + 1) parts)) some))

pub returns : goal.returns
returns c =
    let parts = c.deref-part-items.result.now in
    sym (ap not (due_in_parts c.args.self.now parts _ c.deref-part-items.ensures.value (ap (λ (state : Standing). state.vertices) c.self.view_is) ∙ c.loop-part.invariant ∙ ap any_due (drop_all c.loop-part.part-index parts c.loop-part-test.false)))
