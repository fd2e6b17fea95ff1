use Rattle.std.proofs.Common.{◌≡◌, ◌∙◌, ◌+◌, ◌++◌, drop, get_or, vec_items, append-nil, arith, ap, rules, sym}
use Rattle.std.proofs.lemmas.List.{drop_all}
use Rattle.graph.specs.Entry.{entries_of, entry_of}
use Rattle.job_state.specs.State.{is_due}
use Rattle.job_state.proofs.DueRows.{row_if}
use Rattle.compute.proofs.DueRuns.{all_run, as_long, called_due, next_row, not_begun, one_upto}
use Rattle.compute.proofs.PartCalls.{entry_at, has_entry, none_called, proper_at, same_id}
use Rattle.compute.proofs.tasks.run_part.Goals.{then-vertex+in_ok-push, else-vertex}
use Rattle.compute.proofs.tasks.run_part.Goals as goal

pub loop-row-init : goal.loop-row-init
loop-row-init c = record {
  kept = c.requires.fits;
  running = not_begun c.args.shared.now (entries_of c.args.entries.now) c.args.vertices.now c.args.due.now c.nothing-left.result _
      c.requires.due (none_called c.args.shared.now c.nothing-left.result c.nothing-left.ensures) c.in_ok-active.ensures.items;
}

pub bounds-vertices-row : goal.bounds-vertices-row
bounds-vertices-row c =
    let next = next_row c.args.shared.now c.args.entries.now c.args.vertices.now c.loop-row.vertices c.args.due.now c.loop-row.row-index c.loop-row.left c.loop-row.active.items
    c.requires.same c.loop-row.auto.vertices c.loop-row-test.true c.loop-row.invariant.running in
    let inside = next.inside in
    let long = c.loop-row.auto.vertices in
    omega arith

pub offset_bounds-vertices-row : goal.offset_bounds-vertices-row
offset_bounds-vertices-row c =
    let next = next_row c.args.shared.now c.args.entries.now c.args.vertices.now c.loop-row.vertices c.args.due.now c.loop-row.row-index c.loop-row.left c.loop-row.active.items
    c.requires.same c.loop-row.auto.vertices c.loop-row-test.true c.loop-row.invariant.running in
    let inside = next.inside in
    search rules

pub bounds-entries-row : goal.bounds-entries-row
bounds-entries-row c =
    let next = next_row c.args.shared.now c.args.entries.now c.args.vertices.now c.loop-row.vertices c.args.due.now c.loop-row.row-index c.loop-row.left c.loop-row.active.items
    c.requires.same c.loop-row.auto.vertices c.loop-row-test.true c.loop-row.invariant.running in
    has_entry c.args.entries.now c.args.vertices.now (get_or c.args.due.now c.loop-row.row-index 0) c.requires.same next.inside

pub offset_bounds-entries-row : goal.offset_bounds-entries-row
offset_bounds-entries-row c =
    let next = next_row c.args.shared.now c.args.entries.now c.args.vertices.now c.loop-row.vertices c.args.due.now c.loop-row.row-index c.loop-row.left c.loop-row.active.items
    c.requires.same c.loop-row.auto.vertices c.loop-row-test.true c.loop-row.invariant.running in
    let inside = has_entry c.args.entries.now c.args.vertices.now (get_or c.args.due.now c.loop-row.row-index 0) c.requires.same next.inside in
    search rules

pub run_vertex-requires-clause-same : goal.run_vertex-requires-clause-same
run_vertex-requires-clause-same c =
    let row = get_or c.args.due.now c.loop-row.row-index 0 in
    let next = next_row c.args.shared.now c.args.entries.now c.args.vertices.now c.loop-row.vertices c.args.due.now c.loop-row.row-index c.loop-row.left c.loop-row.active.items
    c.requires.same c.loop-row.auto.vertices c.loop-row-test.true c.loop-row.invariant.running in
    same_id c.args.entries.now c.args.vertices.now c.loop-row.vertices row c.index-entries-row.result c.index-vertices-row.result
    c.requires.same next.runs.rest (has_entry c.args.entries.now c.args.vertices.now row c.requires.same next.inside) next.inside c.index-entries-row.is

pub run_vertex-requires-clause-proper : goal.run_vertex-requires-clause-proper
run_vertex-requires-clause-proper c =
    let row = get_or c.args.due.now c.loop-row.row-index 0 in
    let next = next_row c.args.shared.now c.args.entries.now c.args.vertices.now c.loop-row.vertices c.args.due.now c.loop-row.row-index c.loop-row.left c.loop-row.active.items
    c.requires.same c.loop-row.auto.vertices c.loop-row-test.true c.loop-row.invariant.running in
    proper_at c.args.entries.now row c.index-entries-row.result (has_entry c.args.entries.now c.args.vertices.now row c.requires.same next.inside) c.index-entries-row.is c.requires.proper

pub loop-row-preserved : goal.loop-row-preserved
loop-row-preserved c =
    let row = get_or c.args.due.now c.loop-row.row-index 0 in
    let entries = c.args.entries.now in
    let before = c.args.vertices.now in
    let entry = c.index-entries-row.result in
    let changed = c.run_vertex.new.vertex in
    let active = c.loop-row.active.items in
    let next = next_row c.args.shared.now c.args.entries.now c.args.vertices.now c.loop-row.vertices c.args.due.now c.loop-row.row-index c.loop-row.left c.loop-row.active.items
    c.requires.same c.loop-row.auto.vertices c.loop-row-test.true c.loop-row.invariant.running in
    let calls = c.in_ok-run_vertex.ensures.calls in
    let due = called_due c.args.shared.now (entry_of entry) (get_or c.loop-row.vertices row c.index-vertices-row.result) changed c.loop-row.left c.run_vertex.new.left calls in
    let grown : c.if-vertex.active.items ≡ active ++ row_if (is_due changed) row = elim c.if-vertex.branch [
      | then-vertex+in_ok-push w ↦
          ap vec_items w.active-is ∙ w.in_ok-push.ensures.items ∙ ap (λ is. active ++ row_if is row) (sym (due ∙ w.if-vertex.true))
      | else-vertex w ↦ ap vec_items w.active-is ∙ sym (append-nil active) ∙ ap (λ is. active ++ row_if is row) (sym (due ∙ w.if-vertex.false))
    ] in
    record {
      kept = c.in_ok-run_vertex.ensures.kept ∙ c.loop-row.invariant.kept;
      running = record {
        row = row + 1;
        runs =
            one_upto c.args.shared.now (entries_of entries) before (as_long entries before c.requires.same) c.loop-row.vertices row (entry_of entry) c.index-vertices-row.result
            changed c.loop-row.left c.run_vertex.new.left active _ c.loop-row.auto.vertices next.inside
            (entry_at entries row entry (has_entry entries before row c.requires.same next.inside) c.index-entries-row.is) next.runs calls grown;
        waiting = next.later;
      };
    }

pub returns-clause-calls : goal.returns-clause-calls
returns-clause-calls c =
    (all_run c.args.shared.now (entries_of c.args.entries.now) c.args.vertices.now (as_long c.args.entries.now c.args.vertices.now c.requires.same) c.loop-row.vertices
    (drop c.loop-row.row-index c.args.due.now) c.loop-row.left c.loop-row.active.items c.loop-row.auto.vertices (drop_all c.loop-row.row-index c.args.due.now c.loop-row-test.false)
    c.loop-row.invariant.running).0

pub returns-clause-active : goal.returns-clause-active
returns-clause-active c =
    (all_run c.args.shared.now (entries_of c.args.entries.now) c.args.vertices.now (as_long c.args.entries.now c.args.vertices.now c.requires.same) c.loop-row.vertices
    (drop c.loop-row.row-index c.args.due.now) c.loop-row.left c.loop-row.active.items c.loop-row.auto.vertices (drop_all c.loop-row.row-index c.args.due.now c.loop-row-test.false)
    c.loop-row.invariant.running).1
