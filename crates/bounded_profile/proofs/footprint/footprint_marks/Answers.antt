use Rattle.std.proofs.Common.{◌≡◌, ◌+◌, [], length, drop, sym, ap, ◌∙◌, arith}
use Rattle.std.proofs.lemmas.List.{with_items_is}
use Rattle.verified.specs.Arities.{arity_table}
use Rattle.verified.specs.Reached.{accesses_along, accesses_in}
use Rattle.bounded_profile.specs.inside.Footprint.{marked_all}
use Rattle.bounded_profile.proofs.ReachedFootprint.{all_length, next_function}
use Rattle.bounded_profile.proofs.footprint.footprint_marks.Goals as goal

pub loop-function-preserved : goal.loop-function-preserved
loop-function-preserved c =
    let table = arity_table c.args.module.now in
    let functions = c.as_slice-function-items.result.now in
    let f = c.function-item.result in
    let marks = c.loop-function.marks.items in
    let same : c.mark_body.new.marks ≡ marked_all (accesses_along table f.body []) marks =
    c.in_ok-mark_body.ensures
    ∙ ap (λ arities. marked_all (accesses_along arities f.body []) c.deref_mut.result.now) (c.deref.ensures.value ∙ c.in_ok-arities.ensures)
    ∙ ap (marked_all (accesses_along table f.body [])) c.deref_mut.ensures.value in
    let long : length c.mark_body.new.marks ≡ length marks = ap length same ∙ all_length (accesses_along table f.body []) marks in
    let full = c.loop-function.marks.ok.0 in
    let kept = with_items_is c.loop-function.marks c.mark_body.new.marks (omega (arith, long, full)) in
    c.loop-function.invariant
    ∙ next_function table functions c.loop-function.function-index f marks c.loop-function-test.true c.function-item.is
    ∙ ap (marked_all (accesses_in table (drop (c.loop-function.function-index + 1) functions))) (sym same ∙ sym kept)
