use Rattle.std.proofs.Common.{ap, sym, subst, ◌∙◌, refl, ◌++◌, ◌∷◌, []}
use Rattle.control.specs.Machine.{Machine}
use Rattle.book.specs.Saving.{IsKeptStep}
use Rattle.hub_ends.specs.Hub.{handed, received}
use Rattle.coordinator.specs.inside.Told.{StepsDue, due_by}
use Rattle.coordinator.proofs.Moving.{due_bye, due_taken}
use Rattle.coordinator.proofs.event_loop.take_one.Goals as goal

pub returns-in-Event-clause-steps : goal.returns-in-Event-clause-steps
returns-in-Event-clause-steps g c =
    let s = c.args.ends.now in
    let t = c.take_event.new.self in
    let e = c.accept-answer.ensures in
    let a = e.step in
    let got = c.in_ok-event.ensures.received ∙ ap (λ m. received s ++ m ∷ []) c.in-Event.is in
    let due = c.verdict_on-due.ensures ∙ ap (λ w. due_by w c.accept-answer.result) c.named_by-freed.ensures in
    subst (λ d. StepsDue (IsKeptStep g.K.Keep.honest g.K.Keep.saved g.K.Keep.may_load g.K.Keep.faults g.J.Origin.work g.J.Origin.honest) g.J.Origin.work g.J.Origin.honest c.args.book.now c.accept-answer.new.self (received s) (received t) (handed s) (handed t)
    c.args.keep.now c.accept-answer.new.keep d) (sym due)
    (due_taken g.K.Keep.honest g.K.Keep.saved g.K.Keep.may_load g.K.Keep.faults g.J.Origin.work g.J.Origin.honest c.args.book.now c.accept-answer.new.self a.heard (received s) (received t) (handed s) (handed t) c.in-Event.event
    c.args.keep.now c.accept-answer.new.keep c.accept-answer.result (λ h n. a.quiet h (ap (λ (m : Machine). m.superstep) (sym a.machine) ∙ n)) a.machine got c.take_event.ensures.handed
    (record { keeps = e.keep; cause = e.cause; left = e.left; loads = e.loads }) a.told)

pub returns-in-Bye-clause-steps : goal.returns-in-Bye-clause-steps
returns-in-Bye-clause-steps g c =
    let s = c.args.ends.now in
    let t = c.take_event.new.self in
    let got = c.in_ok-event.ensures.received ∙ ap (λ m. received s ++ m ∷ []) c.in-Bye.is in
    due_bye g.K.Keep.honest g.K.Keep.saved g.K.Keep.may_load g.K.Keep.faults g.J.Origin.work g.J.Origin.honest c.args.book.now c.args.book.now (received s) (received t) (handed s) (handed t) c.in-Bye.field-0 c.args.keep.now refl got c.take_event.ensures.handed
