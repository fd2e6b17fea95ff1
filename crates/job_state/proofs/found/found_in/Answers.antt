use Rattle.std.proofs.Common.{◌+◌, drop, get_or, refl, subst, rules, sym}
use Rattle.std.proofs.lemmas.List.{drop_all, drop_more}
use Rattle.job_state.specs.declared.found.Found.{Found}
use Rattle.job_state.proofs.DueFound.{IsCounting, all_counted, counts_inside, one_counted}
use Rattle.job_state.proofs.found.found_in.Goals as goal

pub loop-row-init : goal.loop-row-init
loop-row-init c = record { row = 0; waiting = c.requires; counted = refl }

pub bounds-vertices-row : goal.bounds-vertices-row
bounds-vertices-row c =
    let due = c.args.due.now in
    let i = c.loop-row.row-index in
    counts_inside c.args.vertices.now (get_or due i 0) (drop (i + 1) due) (drop i due) c.loop-row.found (drop_more due i 0 c.loop-row-test.true) c.loop-row.invariant

pub offset_bounds-vertices-row : goal.offset_bounds-vertices-row
offset_bounds-vertices-row c =
    let due = c.args.due.now in
    let i = c.loop-row.row-index in
    let below = counts_inside c.args.vertices.now (get_or due i 0) (drop (i + 1) due) (drop i due) c.loop-row.found (drop_more due i 0 c.loop-row-test.true) c.loop-row.invariant in
    search rules

pub loop-row-preserved : goal.loop-row-preserved
loop-row-preserved c =
    let due = c.args.due.now in
    let i = c.loop-row.row-index in
    subst (λ (found : Found). IsCounting c.args.vertices.now (drop (i + 1) due) found) (sym c.with_vertex-found.ensures)
    (one_counted c.args.vertices.now (get_or due i 0) (drop (i + 1) due) (drop i due) c.loop-row.found c.index-vertices-row.result
    (drop_more due i 0 c.loop-row-test.true) c.index-vertices-row.is c.loop-row.invariant)

pub returns : goal.returns
returns c =
    all_counted c.args.vertices.now c.loop-row.found (drop c.loop-row.row-index c.args.due.now)
    (drop_all c.loop-row.row-index c.args.due.now c.loop-row-test.false) c.loop-row.invariant
