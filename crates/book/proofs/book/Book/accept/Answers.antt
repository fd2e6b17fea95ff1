use Rattle.std.proofs.Common.{◌≡◌, ◌∙◌, false, true, subst, sym, rules}
use Rattle.control.specs.Machine.{Machine, is_running}
use Rattle.control.specs.Events.{Heard, accepted, on_event}
use Rattle.control.specs.Events.Stamp.{DoneBy, FailedBy, JoinedBy, LostBy, Ticked}
use Rattle.control.specs.Stamps.{done_out, stamp_of}
use Rattle.book.proofs.Steps.{accepted_on, on_event_steady, same_step}
use Rattle.book.proofs.book.Book.accept.Goals as goal

pub returns-in-Done-clause-step : goal.returns-in-Done-clause-step
returns-in-Done-clause-step g c =
    let m = c.args.self.now in
    let run : is_running m.ending ≡ true = subst (λ (x : Machine). is_running x.ending ≡ true) c.self.view_is (search rules) in
    same_step g.J.Origin.work g.J.Origin.honest m c.on_done.new.self (λ (heard : Heard). on_event heard m (DoneBy c.in-Done.worker (done_out c.in-Done.done) c.in-Done.done.units)) (λ (heard : Heard). accepted heard m (stamp_of c.args.event)) c.on_done.result (λ heard. rw c.in-Done.is (accepted_on heard m (DoneBy c.in-Done.worker (done_out c.in-Done.done) c.in-Done.done.units) run)) c.on_done.ensures.step

pub returns-in-Done-clause-keep : goal.returns-in-Done-clause-keep
returns-in-Done-clause-keep g c = c.on_done.ensures.keeps

pub returns-in-Done-clause-cause : goal.returns-in-Done-clause-cause
returns-in-Done-clause-cause g c = c.on_done.ensures.cause

pub returns-in-Done-clause-left : goal.returns-in-Done-clause-left
returns-in-Done-clause-left g c = c.on_done.ensures.left

pub returns-in-Done-clause-loads : goal.returns-in-Done-clause-loads
returns-in-Done-clause-loads g c = c.on_done.ensures.loads

pub returns-in-Lost-clause-step : goal.returns-in-Lost-clause-step
returns-in-Lost-clause-step g c =
    let m = c.args.self.now in
    let run : is_running m.ending ≡ true = subst (λ (x : Machine). is_running x.ending ≡ true) c.self.view_is (search rules) in
    same_step g.J.Origin.work g.J.Origin.honest m c.on_lost.new.self (λ (heard : Heard). on_event heard m (LostBy c.in-Lost.worker)) (λ (heard : Heard). accepted heard m (stamp_of c.args.event)) c.on_lost.result (λ heard. rw c.in-Lost.is (accepted_on heard m (LostBy c.in-Lost.worker) run)) c.on_lost.ensures.step

pub returns-in-Lost-clause-keep : goal.returns-in-Lost-clause-keep
returns-in-Lost-clause-keep g c = c.on_lost.ensures.keeps

pub returns-in-Lost-clause-cause : goal.returns-in-Lost-clause-cause
returns-in-Lost-clause-cause g c = c.on_lost.ensures.cause

pub returns-in-Lost-clause-left : goal.returns-in-Lost-clause-left
returns-in-Lost-clause-left g c = c.on_lost.ensures.left

pub returns-in-Lost-clause-loads : goal.returns-in-Lost-clause-loads
returns-in-Lost-clause-loads g c = c.on_lost.ensures.loads

pub returns-in-Tick-clause-step : goal.returns-in-Tick-clause-step
returns-in-Tick-clause-step g c =
    let m = c.args.self.now in
    let run : is_running m.ending ≡ true = subst (λ (x : Machine). is_running x.ending ≡ true) c.self.view_is (search rules) in
    same_step g.J.Origin.work g.J.Origin.honest m c.on_tick.new.self (λ (heard : Heard). on_event heard m (Ticked)) (λ (heard : Heard). accepted heard m (stamp_of c.args.event)) c.on_tick.result (λ heard. rw c.in-Tick.is (accepted_on heard m (Ticked) run)) c.on_tick.ensures.step

pub returns-in-Tick-clause-keep : goal.returns-in-Tick-clause-keep
returns-in-Tick-clause-keep g c = c.on_tick.ensures.keeps

pub returns-in-Tick-clause-cause : goal.returns-in-Tick-clause-cause
returns-in-Tick-clause-cause g c = c.on_tick.ensures.cause

pub returns-in-Tick-clause-left : goal.returns-in-Tick-clause-left
returns-in-Tick-clause-left g c = c.on_tick.ensures.left

pub returns-in-Tick-clause-loads : goal.returns-in-Tick-clause-loads
returns-in-Tick-clause-loads g c = c.on_tick.ensures.loads

pub returns-in-Failed-clause-step : goal.returns-in-Failed-clause-step
returns-in-Failed-clause-step g c =
    let m = c.args.self.now in
    let run : is_running m.ending ≡ true = subst (λ (x : Machine). is_running x.ending ≡ true) c.self.view_is (search rules) in
    same_step g.J.Origin.work g.J.Origin.honest m c.on_failed.new.self (λ (heard : Heard). on_event heard m (FailedBy c.in-Failed.worker c.in-Failed.place)) (λ (heard : Heard). accepted heard m (stamp_of c.args.event)) c.on_failed.result (λ heard. rw c.in-Failed.is (accepted_on heard m (FailedBy c.in-Failed.worker c.in-Failed.place) run)) c.on_failed.ensures.step

pub returns-in-Failed-clause-keep : goal.returns-in-Failed-clause-keep
returns-in-Failed-clause-keep g c = (on_event_steady g.J.Origin.work g.J.Origin.honest _ c.args.self.now c.on_failed.new.self (g.K.Keep.honest c.args.keep.now) (g.K.Keep.saved c.args.keep.now) (g.K.Keep.may_load c.args.keep.now) (g.K.Keep.faults c.args.keep.now) c.on_failed.result c.on_failed.ensures.step c.on_failed.ensures.steady c.requires.keep).keeps

pub returns-in-Failed-clause-cause : goal.returns-in-Failed-clause-cause
returns-in-Failed-clause-cause g c = (on_event_steady g.J.Origin.work g.J.Origin.honest _ c.args.self.now c.on_failed.new.self (g.K.Keep.honest c.args.keep.now) (g.K.Keep.saved c.args.keep.now) (g.K.Keep.may_load c.args.keep.now) (g.K.Keep.faults c.args.keep.now) c.on_failed.result c.on_failed.ensures.step c.on_failed.ensures.steady c.requires.keep).cause

pub returns-in-Failed-clause-left : goal.returns-in-Failed-clause-left
returns-in-Failed-clause-left g c = (on_event_steady g.J.Origin.work g.J.Origin.honest _ c.args.self.now c.on_failed.new.self (g.K.Keep.honest c.args.keep.now) (g.K.Keep.saved c.args.keep.now) (g.K.Keep.may_load c.args.keep.now) (g.K.Keep.faults c.args.keep.now) c.on_failed.result c.on_failed.ensures.step c.on_failed.ensures.steady c.requires.keep).left

pub returns-in-Failed-clause-loads : goal.returns-in-Failed-clause-loads
returns-in-Failed-clause-loads g c = (on_event_steady g.J.Origin.work g.J.Origin.honest _ c.args.self.now c.on_failed.new.self (g.K.Keep.honest c.args.keep.now) (g.K.Keep.saved c.args.keep.now) (g.K.Keep.may_load c.args.keep.now) (g.K.Keep.faults c.args.keep.now) c.on_failed.result c.on_failed.ensures.step c.on_failed.ensures.steady c.requires.keep).loads

pub returns-in-Joined-clause-step : goal.returns-in-Joined-clause-step
returns-in-Joined-clause-step g c =
    let m = c.args.self.now in
    let run : is_running m.ending ≡ true = subst (λ (x : Machine). is_running x.ending ≡ true) c.self.view_is (search rules) in
    same_step g.J.Origin.work g.J.Origin.honest m c.on_joined.new.self (λ (heard : Heard). on_event heard m (JoinedBy c.in-Joined.worker)) (λ (heard : Heard). accepted heard m (stamp_of c.args.event)) c.on_joined.result (λ heard. rw c.in-Joined.is (accepted_on heard m (JoinedBy c.in-Joined.worker) run)) c.on_joined.ensures.step

pub returns-in-Joined-clause-keep : goal.returns-in-Joined-clause-keep
returns-in-Joined-clause-keep g c = (on_event_steady g.J.Origin.work g.J.Origin.honest _ c.args.self.now c.on_joined.new.self (g.K.Keep.honest c.args.keep.now) (g.K.Keep.saved c.args.keep.now) (g.K.Keep.may_load c.args.keep.now) (g.K.Keep.faults c.args.keep.now) c.on_joined.result c.on_joined.ensures.step c.on_joined.ensures.steady c.requires.keep).keeps

pub returns-in-Joined-clause-cause : goal.returns-in-Joined-clause-cause
returns-in-Joined-clause-cause g c = (on_event_steady g.J.Origin.work g.J.Origin.honest _ c.args.self.now c.on_joined.new.self (g.K.Keep.honest c.args.keep.now) (g.K.Keep.saved c.args.keep.now) (g.K.Keep.may_load c.args.keep.now) (g.K.Keep.faults c.args.keep.now) c.on_joined.result c.on_joined.ensures.step c.on_joined.ensures.steady c.requires.keep).cause

pub returns-in-Joined-clause-left : goal.returns-in-Joined-clause-left
returns-in-Joined-clause-left g c = (on_event_steady g.J.Origin.work g.J.Origin.honest _ c.args.self.now c.on_joined.new.self (g.K.Keep.honest c.args.keep.now) (g.K.Keep.saved c.args.keep.now) (g.K.Keep.may_load c.args.keep.now) (g.K.Keep.faults c.args.keep.now) c.on_joined.result c.on_joined.ensures.step c.on_joined.ensures.steady c.requires.keep).left

pub returns-in-Joined-clause-loads : goal.returns-in-Joined-clause-loads
returns-in-Joined-clause-loads g c = (on_event_steady g.J.Origin.work g.J.Origin.honest _ c.args.self.now c.on_joined.new.self (g.K.Keep.honest c.args.keep.now) (g.K.Keep.saved c.args.keep.now) (g.K.Keep.may_load c.args.keep.now) (g.K.Keep.faults c.args.keep.now) c.on_joined.result c.on_joined.ensures.step c.on_joined.ensures.steady c.requires.keep).loads

pub returns-then-not-is_running-clause-keep : goal.returns-then-not-is_running-clause-keep
returns-then-not-is_running-clause-keep g c = (on_event_steady g.J.Origin.work g.J.Origin.honest _ c.args.self.now c.note_after_end.new.self (g.K.Keep.honest c.args.keep.now) (g.K.Keep.saved c.args.keep.now) (g.K.Keep.may_load c.args.keep.now) (g.K.Keep.faults c.args.keep.now) c.note_after_end.result c.note_after_end.ensures.step c.note_after_end.ensures.steady c.requires.keep).keeps

pub returns-then-not-is_running-clause-cause : goal.returns-then-not-is_running-clause-cause
returns-then-not-is_running-clause-cause g c = (on_event_steady g.J.Origin.work g.J.Origin.honest _ c.args.self.now c.note_after_end.new.self (g.K.Keep.honest c.args.keep.now) (g.K.Keep.saved c.args.keep.now) (g.K.Keep.may_load c.args.keep.now) (g.K.Keep.faults c.args.keep.now) c.note_after_end.result c.note_after_end.ensures.step c.note_after_end.ensures.steady c.requires.keep).cause

pub returns-then-not-is_running-clause-left : goal.returns-then-not-is_running-clause-left
returns-then-not-is_running-clause-left g c = (on_event_steady g.J.Origin.work g.J.Origin.honest _ c.args.self.now c.note_after_end.new.self (g.K.Keep.honest c.args.keep.now) (g.K.Keep.saved c.args.keep.now) (g.K.Keep.may_load c.args.keep.now) (g.K.Keep.faults c.args.keep.now) c.note_after_end.result c.note_after_end.ensures.step c.note_after_end.ensures.steady c.requires.keep).left

pub returns-then-not-is_running-clause-loads : goal.returns-then-not-is_running-clause-loads
returns-then-not-is_running-clause-loads g c = (on_event_steady g.J.Origin.work g.J.Origin.honest _ c.args.self.now c.note_after_end.new.self (g.K.Keep.honest c.args.keep.now) (g.K.Keep.saved c.args.keep.now) (g.K.Keep.may_load c.args.keep.now) (g.K.Keep.faults c.args.keep.now) c.note_after_end.result c.note_after_end.ensures.step c.note_after_end.ensures.steady c.requires.keep).loads

pub on_done-requires : goal.on_done-requires
on_done-requires g c =
    let running = subst (λ (m : Machine). is_running m.ending ≡ true) c.self.view_is (sym c.is_running.ensures ∙ c.if-not-is_running.false) in
    (c.type_bounds.sync-R, (running, c.requires.keep))

pub on_lost-requires : goal.on_lost-requires
on_lost-requires g c =
    let running = subst (λ (m : Machine). is_running m.ending ≡ true) c.self.view_is (sym c.is_running.ensures ∙ c.if-not-is_running.false) in
    (c.type_bounds.sync-R, (running, c.requires.keep))

pub on_tick-requires : goal.on_tick-requires
on_tick-requires g c =
    let running = subst (λ (m : Machine). is_running m.ending ≡ true) c.self.view_is (sym c.is_running.ensures ∙ c.if-not-is_running.false) in
    (c.type_bounds.sync-R, (running, c.requires.keep))

pub on_failed-requires : goal.on_failed-requires
on_failed-requires g c = record { running = subst (λ (m : Machine). is_running m.ending ≡ true) c.self.view_is (sym c.is_running.ensures ∙ c.if-not-is_running.false) }

pub on_joined-requires : goal.on_joined-requires
on_joined-requires g c = record { running = subst (λ (m : Machine). is_running m.ending ≡ true) c.self.view_is (sym c.is_running.ensures ∙ c.if-not-is_running.false) }

pub note_after_end-requires : goal.note_after_end-requires
note_after_end-requires g c = record { over = subst (λ (m : Machine). is_running m.ending ≡ false) c.self.view_is (sym c.is_running.ensures ∙ c.if-not-is_running.true) }
