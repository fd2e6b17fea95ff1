use Rattle.std.proofs.Common.{◌≡◌, sym, rules, refl, ◌∙◌, ap, Some, None, get_or}
use Rattle.std.specs.Prelude.{option_map}
use Rattle.control.specs.Machine.{Machine}
use Rattle.control.specs.Stamps.{task_out}
use Rattle.rollback.specs.inside.Simulating.{sim_of, stamps}
use Rattle.book.proofs.Counts.{kept_still}
use Rattle.book.proofs.Keeps.{keeps_same}
use Rattle.rollback.proofs.Simulated
use Rattle.rollback.proofs.simulation.work.Goals as goal

pub returns-in-Some-clause-step : goal.returns-in-Some-clause-step
returns-in-Some-clause-step g c =
    let j = g.J.Origin.work in
    let h = g.J.Origin.honest in
    let w = c.args.worker in
    let s = sim_of c.args.book.now c.args.held.now in
    let some : get_or s.held w None ≡ Some (task_out c.in-Some.task) = sym c.let_go.ensures.held ∙ ap (option_map task_out) c.in-Some.is in
    let d = c.done_by-event.ensures.told in
    let t = c.tell.ensures.step in
    Simulated.work_held j h w s c.tell.new.book (stamps c.let_go.new.held) (task_out c.in-Some.task) _ d.0 d.1 t.0 c.tell.result some c.let_go.ensures.after d.2 d.3 t.2 t.1

pub returns-then-not-is_running-clause-step : goal.returns-then-not-is_running-clause-step
returns-then-not-is_running-clause-step g c =
    let j = g.J.Origin.work in
    let h = g.J.Origin.honest in
    let w = c.args.worker in
    let s = sim_of c.args.book.now c.args.held.now in
    let none : get_or s.held w None ≡ None = (sym c.let_go.ensures.held ∙ ap (option_map task_out) c.in_default.is) in
    Simulated.work_over j h w s (stamps c.let_go.new.held) none c.let_go.ensures.after (sym c.is_running.ensures ∙ c.if-not-is_running.true)

pub returns-then-worker-held-clause-step : goal.returns-then-worker-held-clause-step
returns-then-worker-held-clause-step g c =
    let j = g.J.Origin.work in
    let h = g.J.Origin.honest in
    let w = c.args.worker in
    let s = sim_of c.args.book.now c.args.held.now in
    let none : get_or s.held w None ≡ None = (sym c.let_go.ensures.held ∙ ap (option_map task_out) c.in_default.is) in
    Simulated.work_far j h w s (stamps c.let_go.new.held) none c.let_go.ensures.after (sym c.is_running.ensures ∙ c.if-not-is_running.false) (Simulated.far_held c.let_go.new.held w c.if-worker-held.true)

pub returns-in_default-next_task-clause-step : goal.returns-in_default-next_task-clause-step
returns-in_default-next_task-clause-step g c =
    let j = g.J.Origin.work in
    let h = g.J.Origin.honest in
    let w = c.args.worker in
    let s = sim_of c.args.book.now c.args.held.now in
    let none : get_or s.held w None ≡ None = (sym c.let_go.ensures.held ∙ ap (option_map task_out) c.in_default.is) in
    let e = c.in_default-next_task.ensures.none refl in
    rw e.0 (Simulated.work_none j h w s (stamps c.let_go.new.held) none c.let_go.ensures.after (sym c.is_running.ensures ∙ c.if-not-is_running.false) (Simulated.near_held c.let_go.new.held w (search rules)) e.1)

pub returns-clause-step : goal.returns-clause-step
returns-clause-step g c =
    let j = g.J.Origin.work in
    let h = g.J.Origin.honest in
    let w = c.args.worker in
    let s = sim_of c.args.book.now c.args.held.now in
    let none : get_or s.held w None ≡ None = (sym c.let_go.ensures.held ∙ ap (option_map task_out) c.in_default.is) in
    let e = c.in-Some-next_task.ensures.some in
    let d = c.done_by-event-2.ensures.told in
    let t = c.tell-2.ensures.step in
    let task = task_out c.in-Some-next_task.task in
    Simulated.work_new j h w c.in-Some-next_task.task.part s c.next_task.new.self c.tell-2.new.book (stamps c.let_go.new.held) task _ d.0 d.1 t.0 c.tell-2.result none c.let_go.ensures.after (sym c.is_running.ensures ∙ c.if-not-is_running.false) (Simulated.near_held c.let_go.new.held w (search rules)) e.0 e.1 e.2 d.2 d.3 t.2 t.1

pub returns-then-not-is_running-clause-kept : goal.returns-then-not-is_running-clause-kept
returns-then-not-is_running-clause-kept g c = kept_still g.K.Keep.honest g.K.Keep.saved g.K.Keep.may_load g.K.Keep.faults g.J.Origin.work g.J.Origin.honest c.args.book.now c.args.book.now c.args.keep.now c.requires.keep refl (record { missed = refl; restarts = refl })

pub returns-then-worker-held-clause-kept : goal.returns-then-worker-held-clause-kept
returns-then-worker-held-clause-kept g c = kept_still g.K.Keep.honest g.K.Keep.saved g.K.Keep.may_load g.K.Keep.faults g.J.Origin.work g.J.Origin.honest c.args.book.now c.args.book.now c.args.keep.now c.requires.keep refl (record { missed = refl; restarts = refl })

pub returns-in_default-next_task-clause-kept : goal.returns-in_default-next_task-clause-kept
returns-in_default-next_task-clause-kept g c =
    let e = c.in_default-next_task.ensures.none refl in
    rw e.0 (kept_still g.K.Keep.honest g.K.Keep.saved g.K.Keep.may_load g.K.Keep.faults g.J.Origin.work g.J.Origin.honest c.args.book.now c.args.book.now c.args.keep.now c.requires.keep refl (record { missed = refl; restarts = refl }))

pub returns-clause-kept : goal.returns-clause-kept
returns-clause-kept g c =
    let e = c.in-Some-next_task.ensures.some in
    Simulated.kept_handed g.K.Keep.honest g.K.Keep.saved g.K.Keep.may_load g.K.Keep.faults g.J.Origin.work g.J.Origin.honest c.args.book.now c.next_task.new.self c.tell-2.new.book c.args.worker c.in-Some-next_task.task.part c.args.keep.now c.tell-2.new.keep e.1 c.tell-2.ensures.kept

pub returns-in-Some-clause-runner : goal.returns-in-Some-clause-runner
returns-in-Some-clause-runner g c = c.done_by-event.ensures.runner

pub returns-in-Some-clause-keep : goal.returns-in-Some-clause-keep
returns-in-Some-clause-keep g c = c.tell.ensures.keep

pub returns-in-Some-clause-kept : goal.returns-in-Some-clause-kept
returns-in-Some-clause-kept g c = c.tell.ensures.kept

pub returns-then-not-is_running-clause-runner : goal.returns-then-not-is_running-clause-runner
returns-then-not-is_running-clause-runner g c = c.requires.runner

pub returns-then-not-is_running-clause-keep : goal.returns-then-not-is_running-clause-keep
returns-then-not-is_running-clause-keep g c = c.requires.keep

pub returns-then-worker-held-clause-runner : goal.returns-then-worker-held-clause-runner
returns-then-worker-held-clause-runner g c = c.requires.runner

pub returns-then-worker-held-clause-keep : goal.returns-then-worker-held-clause-keep
returns-then-worker-held-clause-keep g c = c.requires.keep

pub returns-in_default-next_task-clause-runner : goal.returns-in_default-next_task-clause-runner
returns-in_default-next_task-clause-runner g c = c.requires.runner

pub returns-in_default-next_task-clause-keep : goal.returns-in_default-next_task-clause-keep
returns-in_default-next_task-clause-keep g c =
    let e = c.in_default-next_task.ensures.none refl in
    rw e.0 c.requires.keep

pub returns-clause-runner : goal.returns-clause-runner
returns-clause-runner g c = c.done_by-event-2.ensures.runner

pub returns-clause-keep : goal.returns-clause-keep
returns-clause-keep g c = c.tell-2.ensures.keep

pub tell-requires : goal.tell-requires
tell-requires g c = (c.type_bounds.sync-R, c.requires.keep)

pub tell-requires-2 : goal.tell-requires-2
tell-requires-2 g c =
    let keep = c.args.keep.now in
    let saved : c.next_task.new.self.saved ≡ c.args.book.now.saved = ap (λ (m : Machine). m.saved) c.in-Some-next_task.ensures.some.1 in
    (c.type_bounds.sync-R, keeps_same g.J.Origin.work g.J.Origin.honest (g.K.Keep.honest keep) (g.K.Keep.saved keep) (g.K.Keep.may_load keep) c.args.book.now c.next_task.new.self saved c.requires.keep)
