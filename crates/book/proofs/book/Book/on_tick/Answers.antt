use Rattle.std.proofs.Common.{arith, ◌≡◌, ◌≤◌, sym, subst, refl, ◌∙◌, ap, true, false, ◌&&◌, not}
use Rattle.std.specs.Prelude.{Ok, Err, nat_lt}
use Rattle.job_state.specs.declared.fault.JobFault.TheVariants.{NoWorkers}
use Rattle.control.specs.declared.answer.Answer.TheVariants.{Taken}
use Rattle.control.specs.Machine.{Machine, aged, count_set, expired, in_time, is_overdue, is_running, saved_or_first}
use Rattle.control.specs.Events.{Heard, after_loss, on_event}
use Rattle.control.specs.Events.Stamp.{Ticked}
use Rattle.book.specs.inside.Recovery.{has_room}
use Rattle.book.proofs.Kept
use Rattle.book.proofs.Steps
use Rattle.book.proofs.Steps.{on_event_steady, plain_step, reply_running}
use Rattle.control.proofs.ByPlace.{length-by_place}
use Rattle.book.proofs.Keeps
use Rattle.book.proofs.book.Book.on_tick.Goals as goal

pub invariant_of-self : goal.invariant_of-self
invariant_of-self g c =
    let i = c.self.inside in
    rw c.grow_older.ensures (Kept.book_rest g.J.Origin.work g.J.Origin.honest i.job.now i.control i.ids.items i.job_data i.control.waiting (aged i.control).age i.control.spent i.control.missed i.control.restarts c.self.invariant)

pub returns-then-not-is_some_overdue : goal.returns-then-not-is_some_overdue
returns-then-not-is_some_overdue g c =
    let m = c.args.self.now in
    let older = c.grow_older.ensures ∙ ap (λ x. aged x) c.self.view_is in
    let few : nat_lt (count_set (expired (aged m)).alive) (count_set (aged m).alive) ≡ false = subst (λ (x : Machine). nat_lt (count_set (expired x).alive) (count_set x.alive) ≡ false) older (sym c.is_some_overdue.ensures ∙ c.if-not-is_some_overdue.true) in
    let next = λ (heard : Heard). on_event heard m Ticked in
    on_event_steady g.J.Origin.work g.J.Origin.honest next m c.grow_older.new.self (g.K.Keep.honest c.args.keep.now) (g.K.Keep.saved c.args.keep.now) (g.K.Keep.may_load c.args.keep.now) (g.K.Keep.faults c.args.keep.now) (Ok Taken)
    (plain_step g.J.Origin.work g.J.Origin.honest m c.grow_older.new.self (aged m) next Taken (Ok Taken) (rw few refl) (sym older) (ap (λ (x : Machine). x.superstep) older) (rw older (reply_running m.ending Taken c.requires.running)))
    (record { saved = ap (λ (x : Machine). x.saved) older; missed = ap (λ (x : Machine). x.missed) older; restarts = ap (λ (x : Machine). x.restarts) older }) c.requires.keep

pub invariant_of-self-then-not-lose_overdue : goal.invariant_of-self-then-not-lose_overdue
invariant_of-self-then-not-lose_overdue g c =
    let i = c.self.inside in
    let is = c.lose_overdue.ensures.after ∙ ap (λ x. after_loss (expired x)) c.grow_older.ensures in
    let over : is_running (after_loss (expired (aged i.control))).ending ≡ false = subst (λ (x : Machine). is_running x.ending ≡ false) is (sym c.lose_overdue.ensures.left ∙ c.if-not-lose_overdue.true) in
    let b = Kept.book_rest g.J.Origin.work g.J.Origin.honest i.job.now i.control i.ids.items i.job_data i.control.waiting (aged i.control).age i.control.spent i.control.missed i.control.restarts c.self.invariant in
    rw (is, Steps.ended_is (expired (aged i.control)) (subst (λ (m : Machine). is_running m.ending ≡ true) (sym c.self.view_is) c.requires.running) over)
    (Kept.book_alone g.J.Origin.work g.J.Origin.honest i.job.now (aged i.control) i.ids.items i.job_data _ (in_time i.control.settings.lease i.control.out (aged i.control).age i.control.alive) refl b)

pub returns-then-not-lose_overdue : goal.returns-then-not-lose_overdue
returns-then-not-lose_overdue g c =
    let m = c.args.self.now in
    let older = c.grow_older.ensures ∙ ap (λ x. aged x) c.self.view_is in
    let some : nat_lt (count_set (expired (aged m)).alive) (count_set (aged m).alive) ≡ true = subst (λ (x : Machine). nat_lt (count_set (expired x).alive) (count_set x.alive) ≡ true) older (sym c.is_some_overdue.ensures ∙ c.if-not-is_some_overdue.false) in
    let next = λ (heard : Heard). on_event heard m Ticked in
    let is = c.lose_overdue.ensures.after ∙ ap (λ x. after_loss (expired x)) older in
    let over = sym c.lose_overdue.ensures.left ∙ c.if-not-lose_overdue.true in
    let ends = is ∙ Steps.ended_is (expired (aged m)) c.requires.running (subst (λ (x : Machine). is_running x.ending ≡ false) is over) in
    on_event_steady g.J.Origin.work g.J.Origin.honest next m c.lose_overdue.new.self (g.K.Keep.honest c.args.keep.now) (g.K.Keep.saved c.args.keep.now) (g.K.Keep.may_load c.args.keep.now) (g.K.Keep.faults c.args.keep.now) (Err NoWorkers)
    (Steps.loss_end g.J.Origin.work g.J.Origin.honest m (expired (aged m)) c.lose_overdue.new.self next (Err NoWorkers) (rw some refl) is c.requires.running over refl refl)
    (record { saved = ap (λ (x : Machine). x.saved) ends; missed = ap (λ (x : Machine). x.missed) ends; restarts = ap (λ (x : Machine). x.restarts) ends }) c.requires.keep

pub put_back-requires-clause-back : goal.put_back-requires-clause-back
put_back-requires-clause-back g c =
    let on = sym c.lose_overdue.ensures.left ∙ c.if-not-lose_overdue.false in
    let is = c.lose_overdue.ensures.after ∙ ap (λ x. after_loss (expired x)) c.grow_older.ensures in
    let anew = is ∙ Steps.anew_is (expired (aged c.self.inside.control)) (subst (λ (x : Machine). is_running x.ending ≡ true) is on) in
    rw anew refl

pub put_back-requires-clause-keep : goal.put_back-requires-clause-keep
put_back-requires-clause-keep g c =
    let on = sym c.lose_overdue.ensures.left ∙ c.if-not-lose_overdue.false in
    let is = c.lose_overdue.ensures.after ∙ ap (λ x. after_loss (expired x)) c.grow_older.ensures in
    let anew = is ∙ Steps.anew_is (expired (aged c.self.inside.control)) (subst (λ (x : Machine). is_running x.ending ≡ true) is on) in
    let honest = g.J.Origin.honest in
    let epoch = ap (λ (x : Machine). x.epoch) anew in
    Keeps.keeps_less g.J.Origin.work honest (honest c.lose_overdue.new.self.epoch) (g.K.Keep.honest c.args.keep.now) (g.K.Keep.saved c.args.keep.now) (g.K.Keep.may_load c.args.keep.now) c.lose_overdue.new.self
    (λ sure. g.J.Origin.lasts c.lose_overdue.new.self.epoch 1 (omega (arith, epoch)) sure)
    (Keeps.keeps_same g.J.Origin.work honest (g.K.Keep.honest c.args.keep.now) (g.K.Keep.saved c.args.keep.now) (g.K.Keep.may_load c.args.keep.now) c.args.self.now c.lose_overdue.new.self (ap (λ (x : Machine). x.saved) anew ∙ ap (λ (x : Machine). x.saved) c.self.view_is) c.requires.keep)

pub put_back-requires-clause-ids : goal.put_back-requires-clause-ids
put_back-requires-clause-ids g c = rw (c.self.invariant.job, c.deref.ensures.value) c.self.invariant.knows

pub invariant_of-self-2 : goal.invariant_of-self-2
invariant_of-self-2 g c =
    let i = c.self.inside in
    let t = c.put_back.ensures.told in
    let on = sym c.lose_overdue.ensures.left ∙ c.if-not-lose_overdue.false in
    let is = c.lose_overdue.ensures.after ∙ ap (λ x. after_loss (expired x)) c.grow_older.ensures in
    let anew = is ∙ Steps.anew_is (expired (aged i.control)) (subst (λ (x : Machine). is_running x.ending ≡ true) is on) in
    Kept.book_rolled g.J.Origin.work g.J.Origin.honest i.job.now (aged i.control) c.lose_overdue.new.self c.put_back.new.control i.ids.items i.job_data c.put_back.result (in_time i.control.settings.lease i.control.out (aged i.control).age i.control.alive) t.0 (has_room c.put_back.result) i.job.now.settings.parts
    g.J.Origin.lasts (length-by_place (λ w flag. flag && not (is_overdue i.control.settings.lease i.control.out (aged i.control).age w)) 0 i.control.alive) (Kept.book_rest g.J.Origin.work g.J.Origin.honest i.job.now i.control i.ids.items i.job_data i.control.waiting (aged i.control).age i.control.spent i.control.missed i.control.restarts c.self.invariant) (subst (λ (m : Machine). is_running m.ending ≡ true) (sym c.self.view_is) c.requires.running) anew t.1 (rw c.self.invariant.job refl) c.put_back.ensures.held

pub returns : goal.returns
returns g c =
    let m = c.args.self.now in
    let older = c.grow_older.ensures ∙ ap (λ x. aged x) c.self.view_is in
    let some : nat_lt (count_set (expired (aged m)).alive) (count_set (aged m).alive) ≡ true = subst (λ (x : Machine). nat_lt (count_set (expired x).alive) (count_set x.alive) ≡ true) older (sym c.is_some_overdue.ensures ∙ c.if-not-is_some_overdue.false) in
    let next = λ (heard : Heard). on_event heard m Ticked in
    let t = c.put_back.ensures.told in
    let past = subst (λ (x : Machine). saved_or_first x.saved ≤ x.superstep) c.self.view_is c.self.invariant.past in
    Steps.loss_on_event g.J.Origin.work g.J.Origin.honest m (expired (aged m)) c.lose_overdue.new.self c.put_back.new.control next t.0 (has_room c.put_back.result) _ _ _ _ _ _ _ _ c.rolled_reply.result (rw some refl)
    (c.lose_overdue.ensures.after ∙ ap (λ x. after_loss (expired x)) older) (sym c.lose_overdue.ensures.left ∙ c.if-not-lose_overdue.false) t.1 refl refl refl past t.2 c.requires.keep c.rolled_reply.ensures
