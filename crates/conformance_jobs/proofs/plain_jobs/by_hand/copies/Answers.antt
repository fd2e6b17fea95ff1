use Rattle.std.proofs.Common.{◌≡◌, ◌++◌, [], ap, sym, ◌∙◌, arith}
use Rattle.std.proofs.lemmas.List.{append-nil, nil_from_length}
use Rattle.superstep.proofs.Runs.{is_row}
use Rattle.conformance_jobs.proofs.plain_jobs.by_hand.copies.Goals as goal

pub returns : goal.returns
returns g c =
    let none : c.loop-slice.slice-iterator.rest.items ≡ [] = nil_from_length _ (omega (arith, c.in-None.ensures.steps.0, c.loop-slice.slice-iterator.rest.ok.0)) in
    let full : c.loop-slice.yielded ≡ c.args.slices.items =
    sym (append-nil c.loop-slice.yielded) ∙ ap (λ xs. c.loop-slice.yielded ++ xs) (sym none) ∙ c.loop-slice.invariant.left in
    is_row 0 c.args.job.now.settings.parts 0 c.loop-slice.copies.items (c.loop-slice.invariant.done ∙ full ∙ c.requires.all)
