use Rattle.std.proofs.Common.{◌<◌, ℕ, List, length, get_or, w64, ap, refl, sym, ◌∙◌, arith, rules}
use Rattle.std.specs.List.{list_any}
use Rattle.std.proofs.lemmas.Int.{to_z-of_z}
use Rattle.std.proofs.lemmas.List.{length-map}
use Rattle.graph.specs.Entry.{id_at}
use Rattle.superstep.specs.Superstep.{is_sent_to}
use Rattle.plain_run.specs.inside.OneMachine.{entries_in, entry_in, row_in, rows_in}
use Rattle.plain_run.proofs.Delivering.{holding, missed}
use Rattle.plain_run.proofs.PlainCalls.{entries_stay}
use Rattle.plain_run.proofs.PlainSteps.{delivered_at, ids_in}
use Rattle.plain_run.proofs.machine.deliver.Goals as goal
use mir.Val.{SFits}

pub returns-in_ok-push-in-Some-clause-same : goal.returns-in_ok-push-in-Some-clause-same
returns-in_ok-push-in-Some-clause-same c =
    let vertices = c.args.vertices.now in
    let inside : c.in-Some.place < length vertices =
    omega (arith, c.in-Some.ensures.inside, ap length c.requires.ids, length-map (entries_in vertices) id_at, length-map vertices entry_in) in
    entries_stay vertices c.in-Some.place c.index-vertices-place.result _ refl inside

pub returns-in_ok-push-in-Some-clause-rows : goal.returns-in_ok-push-in-Some-clause-rows
returns-in_ok-push-in-Some-clause-rows c =
    let vertices = c.args.vertices.now in
    let inside : c.in-Some.place < length vertices =
    omega (arith, c.in-Some.ensures.inside, ap length c.requires.ids, length-map (entries_in vertices) id_at, length-map vertices entry_in) in
    let to : SFits w64 c.args.message.0 = search rules in
    let value : SFits w64 c.args.message.1 = search rules in
    delivered_at c.args.message vertices c.args.ids.now c.in-Some.place c.index-vertices-place.result _ c.requires.ids c.requires.rising inside
    (simp to_z-of_z at c.in-Some.ensures.found)
    (ap (λ inbox. holding (row_in (get_or vertices c.in-Some.place c.index-vertices-place.result)) inbox) (simp to_z-of_z at c.in_ok-push-in-Some.ensures.items))

pub returns-in-None-clause-rows : goal.returns-in-None-clause-rows
returns-in-None-clause-rows c =
    let to : SFits w64 c.args.message.0 = search rules in
    missed c.args.message (rows_in c.args.vertices.now)
    (ap (λ (numbers : List ℕ). list_any (λ id. is_sent_to id c.args.message) numbers) (ids_in c.args.vertices.now ∙ sym c.requires.ids) ∙ simp to_z-of_z at c.in-None.ensures.none)
