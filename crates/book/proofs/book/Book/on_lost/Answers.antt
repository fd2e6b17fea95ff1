use Rattle.std.proofs.Common.{arith, ◌≡◌, ◌<◌, ◌≤◌, length, sym, subst, rules, refl, ◌∙◌, ap, true, false}
use Rattle.std.specs.Prelude.{Ok, Err, nat_lt}
use Rattle.job_state.specs.declared.fault.JobFault.TheVariants.{NoWorkers}
use Rattle.control.specs.declared.answer.Answer.TheVariants.{Stale}
use Rattle.control.specs.Machine.{Machine, is_alive, is_running, lost, saved_or_first}
use Rattle.control.specs.Events.{Heard, after_loss, on_event}
use Rattle.control.specs.Events.Stamp.{LostBy}
use Rattle.book.specs.inside.Recovery.{has_room}
use Rattle.book.proofs.Kept
use Rattle.book.proofs.Steps
use Rattle.book.proofs.Steps.{above_is, below_is, on_event_steady, plain_step, reply_running}
use Rattle.std.proofs.Math.ListN.{length-set, set}
use Rattle.book.proofs.Keeps
use Rattle.book.proofs.book.Book.on_lost.Goals as goal

pub returns-then-worker-workers : goal.returns-then-worker-workers
returns-then-worker-workers g c =
    let m = c.args.self.now in
    let far : nat_lt c.args.worker (length m.alive) ≡ false = above_is c.args.worker (length m.alive) (subst (λ (x : Machine). length x.alive ≤ c.args.worker) c.self.view_is (search rules)) in
    let next = λ (heard : Heard). on_event heard m (LostBy c.args.worker) in
    on_event_steady g.J.Origin.work g.J.Origin.honest next m m (g.K.Keep.honest c.args.keep.now) (g.K.Keep.saved c.args.keep.now) (g.K.Keep.may_load c.args.keep.now) (g.K.Keep.faults c.args.keep.now) (Ok Stale)
    (plain_step g.J.Origin.work g.J.Origin.honest m m m next Stale (Ok Stale) (rw far refl) refl refl (reply_running m.ending Stale c.requires.running)) (record { saved = refl; missed = refl; restarts = refl }) c.requires.keep

pub returns-then-not-is_alive : goal.returns-then-not-is_alive
returns-then-not-is_alive g c =
    let m = c.args.self.now in
    let near : nat_lt c.args.worker (length m.alive) ≡ true = below_is c.args.worker (length m.alive) (subst (λ (x : Machine). c.args.worker < length x.alive) c.self.view_is (search rules)) in
    let dead : is_alive m c.args.worker ≡ false = subst (λ (x : Machine). is_alive x c.args.worker ≡ false) c.self.view_is (search rules) in
    let next = λ (heard : Heard). on_event heard m (LostBy c.args.worker) in
    on_event_steady g.J.Origin.work g.J.Origin.honest next m m (g.K.Keep.honest c.args.keep.now) (g.K.Keep.saved c.args.keep.now) (g.K.Keep.may_load c.args.keep.now) (g.K.Keep.faults c.args.keep.now) (Ok Stale)
    (plain_step g.J.Origin.work g.J.Origin.honest m m m next Stale (Ok Stale) (rw (near, dead) refl) refl refl (reply_running m.ending Stale c.requires.running)) (record { saved = refl; missed = refl; restarts = refl }) c.requires.keep

pub invariant_of-self : goal.invariant_of-self
invariant_of-self g c =
    let i = c.self.inside in
    let over : is_running (after_loss (lost i.control c.args.worker)).ending ≡ false = subst (λ (x : Machine). is_running x.ending ≡ false) c.lose.ensures.after (sym c.lose.ensures.left ∙ c.if-not-lose.true) in
    rw (c.lose.ensures.after, Steps.ended_is (lost i.control c.args.worker) (subst (λ (m : Machine). is_running m.ending ≡ true) (sym c.self.view_is) c.requires.running) over)
    (Kept.book_alone g.J.Origin.work g.J.Origin.honest i.job.now i.control i.ids.items i.job_data _ (set i.control.alive c.args.worker false) refl c.self.invariant)

pub returns-then-not-lose : goal.returns-then-not-lose
returns-then-not-lose g c =
    let m = c.args.self.now in
    let near : nat_lt c.args.worker (length m.alive) ≡ true = below_is c.args.worker (length m.alive) (subst (λ (x : Machine). c.args.worker < length x.alive) c.self.view_is (search rules)) in
    let alive : is_alive m c.args.worker ≡ true = subst (λ (x : Machine). is_alive x c.args.worker ≡ true) c.self.view_is (search rules) in
    let next = λ (heard : Heard). on_event heard m (LostBy c.args.worker) in
    let is = c.lose.ensures.after ∙ ap (λ x. after_loss (lost x c.args.worker)) c.self.view_is in
    let over = sym c.lose.ensures.left ∙ c.if-not-lose.true in
    let ends = is ∙ Steps.ended_is (lost m c.args.worker) c.requires.running (subst (λ (x : Machine). is_running x.ending ≡ false) is over) in
    on_event_steady g.J.Origin.work g.J.Origin.honest next m c.lose.new.self (g.K.Keep.honest c.args.keep.now) (g.K.Keep.saved c.args.keep.now) (g.K.Keep.may_load c.args.keep.now) (g.K.Keep.faults c.args.keep.now) (Err NoWorkers)
    (Steps.loss_end g.J.Origin.work g.J.Origin.honest m (lost m c.args.worker) c.lose.new.self next (Err NoWorkers) (rw (near, alive) refl) is c.requires.running over refl refl)
    (record { saved = ap (λ (x : Machine). x.saved) ends; missed = ap (λ (x : Machine). x.missed) ends; restarts = ap (λ (x : Machine). x.restarts) ends }) c.requires.keep

pub put_back-requires-clause-back : goal.put_back-requires-clause-back
put_back-requires-clause-back g c =
    let on = sym c.lose.ensures.left ∙ c.if-not-lose.false in
    let is = c.lose.ensures.after in
    let anew = is ∙ Steps.anew_is (lost c.self.inside.control c.args.worker) (subst (λ (x : Machine). is_running x.ending ≡ true) is on) in
    rw anew refl

pub put_back-requires-clause-keep : goal.put_back-requires-clause-keep
put_back-requires-clause-keep g c =
    let on = sym c.lose.ensures.left ∙ c.if-not-lose.false in
    let is = c.lose.ensures.after in
    let anew = is ∙ Steps.anew_is (lost c.self.inside.control c.args.worker) (subst (λ (x : Machine). is_running x.ending ≡ true) is on) in
    let honest = g.J.Origin.honest in
    let epoch = ap (λ (x : Machine). x.epoch) anew in
    Keeps.keeps_less g.J.Origin.work honest (honest c.lose.new.self.epoch) (g.K.Keep.honest c.args.keep.now) (g.K.Keep.saved c.args.keep.now) (g.K.Keep.may_load c.args.keep.now) c.lose.new.self
    (λ sure. g.J.Origin.lasts c.lose.new.self.epoch 1 (omega (arith, epoch)) sure)
    (Keeps.keeps_same g.J.Origin.work honest (g.K.Keep.honest c.args.keep.now) (g.K.Keep.saved c.args.keep.now) (g.K.Keep.may_load c.args.keep.now) c.args.self.now c.lose.new.self (ap (λ (x : Machine). x.saved) anew ∙ ap (λ (x : Machine). x.saved) c.self.view_is) c.requires.keep)

pub put_back-requires-clause-ids : goal.put_back-requires-clause-ids
put_back-requires-clause-ids g c = rw (c.self.invariant.job, c.deref.ensures.value) c.self.invariant.knows

pub invariant_of-self-2 : goal.invariant_of-self-2
invariant_of-self-2 g c =
    let i = c.self.inside in
    let t = c.put_back.ensures.told in
    let on = sym c.lose.ensures.left ∙ c.if-not-lose.false in
    let is = c.lose.ensures.after in
    let anew = is ∙ Steps.anew_is (lost i.control c.args.worker) (subst (λ (x : Machine). is_running x.ending ≡ true) is on) in
    Kept.book_rolled g.J.Origin.work g.J.Origin.honest i.job.now i.control c.lose.new.self c.put_back.new.control i.ids.items i.job_data c.put_back.result (set i.control.alive c.args.worker false) t.0 (has_room c.put_back.result) i.job.now.settings.parts
    g.J.Origin.lasts (length-set i.control.alive c.args.worker false) c.self.invariant (subst (λ (m : Machine). is_running m.ending ≡ true) (sym c.self.view_is) c.requires.running) anew t.1 (rw c.self.invariant.job refl) c.put_back.ensures.held

pub returns : goal.returns
returns g c =
    let m = c.args.self.now in
    let near : nat_lt c.args.worker (length m.alive) ≡ true = below_is c.args.worker (length m.alive) (subst (λ (x : Machine). c.args.worker < length x.alive) c.self.view_is (search rules)) in
    let alive : is_alive m c.args.worker ≡ true = subst (λ (x : Machine). is_alive x c.args.worker ≡ true) c.self.view_is (search rules) in
    let next = λ (heard : Heard). on_event heard m (LostBy c.args.worker) in
    let t = c.put_back.ensures.told in
    let past = subst (λ (x : Machine). saved_or_first x.saved ≤ x.superstep) c.self.view_is c.self.invariant.past in
    Steps.loss_on_event g.J.Origin.work g.J.Origin.honest m (lost m c.args.worker) c.lose.new.self c.put_back.new.control next t.0 (has_room c.put_back.result) _ _ _ _ _ _ _ _ c.rolled_reply.result (rw (near, alive) refl)
    (c.lose.ensures.after ∙ ap (λ x. after_loss (lost x c.args.worker)) c.self.view_is) (sym c.lose.ensures.left ∙ c.if-not-lose.false) t.1 refl refl refl past t.2 c.requires.keep c.rolled_reply.ensures
