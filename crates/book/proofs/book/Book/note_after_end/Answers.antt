use Rattle.std.proofs.Common.{◌≡◌, sym, ℕ, refl, ◌∙◌, ap}
use Rattle.job_state.specs.Stamps.{DoneStamp}
use Rattle.control.specs.declared.answer.Answer.TheVariants.{Ended}
use Rattle.control.specs.declared.event.Event.{Event}
use Rattle.control.specs.declared.event.Event.TheVariants as event
use Rattle.control.specs.Machine.{Machine}
use Rattle.control.specs.Events.{Heard, accepted, after_end, reply_of}
use Rattle.control.specs.Events.Stamp.{DoneBy}
use Rattle.control.specs.Stamps.{done_out, stamp_of}
use Rattle.book.proofs.Steps.{accepted_over, plain, plain_step}
use Rattle.book.proofs.book.Book.note_after_end.Goals as goal

-- an event that is no result
not_done : (m : Machine) {J : _} (e : Event J) → ((w : ℕ) (d : DoneStamp) → e ≡ event.Done w d → ⊥) → after_end m (stamp_of e) ≡ m
not_done m (event.Done w d) h = absurd (h w d refl)
not_done m (event.Failed w place) h = refl
not_done m (event.Lost w) h = refl
not_done m (event.Joined w) h = refl
not_done m event.Tick h = refl

pub returns-in_default-clause-step : goal.returns-in_default-clause-step
returns-in_default-clause-step g c =
    let m = c.args.self.now in
    plain_step g.J.Origin.work g.J.Origin.honest m m (after_end m (stamp_of c.args.event)) (λ (heard : Heard). accepted heard m (stamp_of c.args.event)) Ended c.ended_reply.result
    (accepted_over plain m (stamp_of c.args.event) c.requires.over) (not_done m c.args.event c.in_default.not-Done) refl (c.ended_reply.ensures ∙ ap (λ x. reply_of (x, Ended)) c.self.view_is)

pub returns-clause-step : goal.returns-clause-step
returns-clause-step g c =
    let m = c.args.self.now in
    let w = c.in-Done.worker in
    let done = c.in-Done.done in
    let is = c.charge_late.ensures.machine (done_out done) ∙ ap (λ n. after_end m (DoneBy w (done_out done) n)) c.units.ensures in
    plain_step g.J.Origin.work g.J.Origin.honest m c.charge_late.new.self (after_end m (DoneBy w (done_out done) done.units)) (λ (heard : Heard). accepted heard m (stamp_of c.args.event)) Ended c.ended_reply-2.result
    (rw c.in-Done.is (accepted_over plain m (DoneBy w (done_out done) done.units) c.requires.over)) (sym is) c.charge_late.ensures.superstep (c.ended_reply-2.ensures ∙ ap (λ x. reply_of (x, Ended)) c.self-2.view_is)
