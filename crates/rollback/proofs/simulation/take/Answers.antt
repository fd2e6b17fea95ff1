use Rattle.std.proofs.Common.{sym, rules, refl, ◌∙◌, ap, Some}
use Rattle.std.proofs.Math.ListN.{set}
use Rattle.rollback.specs.inside.Simulating.{sim_of, stamps}
use Rattle.rollback.proofs.Simulated
use Rattle.rollback.proofs.simulation.take.Goals as goal

pub returns-then-not-is_running-clause-step : goal.returns-then-not-is_running-clause-step
returns-then-not-is_running-clause-step g c = Simulated.take_over g.J.Origin.work g.J.Origin.honest c.args.worker (sim_of c.args.book.now c.args.held.now) (sym c.is_running.ensures ∙ c.if-not-is_running.true)

pub returns-then-index-held-clause-step : goal.returns-then-index-held-clause-step
returns-then-index-held-clause-step g c = Simulated.take_far g.J.Origin.work g.J.Origin.honest c.args.worker (sim_of c.args.book.now c.args.held.now) (sym c.is_running.ensures ∙ c.if-not-is_running.false) (Simulated.far_held c.args.held.now c.args.worker (search rules))

pub returns-then-not-holds_none-clause-step : goal.returns-then-not-holds_none-clause-step
returns-then-not-holds_none-clause-step g c = Simulated.take_holder g.J.Origin.work g.J.Origin.honest c.args.worker (sim_of c.args.book.now c.args.held.now) (sym c.is_running.ensures ∙ c.if-not-is_running.false) (Simulated.near_held c.args.held.now c.args.worker (search rules)) (search rules)

pub returns-in_default-clause-step : goal.returns-in_default-clause-step
returns-in_default-clause-step g c =
    let j = g.J.Origin.work in
    let h = g.J.Origin.honest in
    let w = c.args.worker in
    let s = sim_of c.args.book.now c.args.held.now in
    let e = c.in_default.ensures.none refl in
    rw e.0 (Simulated.take_none j h w s (sym c.is_running.ensures ∙ c.if-not-is_running.false) (Simulated.near_held c.args.held.now w (search rules)) (search rules) e.1)

pub returns-clause-step : goal.returns-clause-step
returns-clause-step g c =
    let j = g.J.Origin.work in
    let h = g.J.Origin.honest in
    let w = c.args.worker in
    let s = sim_of c.args.book.now c.args.held.now in
    let t = c.in-Some.task in
    let e = c.in-Some.ensures.some in
    let held = Simulated.stamps_set c.args.held.now w (Some t) ∙ ap (λ o. set (stamps c.args.held.now) w (Some o)) e.2 in
    rw c.part-part.ensures (Simulated.take_some j h w t.part s c.next_task.new.self (stamps (set c.args.held.now w (Some t))) (sym c.is_running.ensures ∙ c.if-not-is_running.false) (Simulated.near_held c.args.held.now w (search rules)) (search rules) e.0 e.1 held)
