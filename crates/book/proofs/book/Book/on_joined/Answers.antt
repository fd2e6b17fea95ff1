use Rattle.std.proofs.Common.{◌≡◌, ◌<◌, ◌≤◌, length, sym, subst, rules, refl, ◌∙◌, ap, true, false}
use Rattle.std.specs.Prelude.{Ok, nat_lt}
use Rattle.control.specs.declared.answer.Answer.TheVariants.{Stale, Taken}
use Rattle.control.specs.Machine.{Machine, is_running, may_join, waits}
use Rattle.control.specs.Events.{on_event}
use Rattle.control.specs.Events.Stamp.{JoinedBy}
use Rattle.book.proofs.Kept.{book_waits, runs}
use Rattle.control.proofs.Sound.{dead_none}
use Rattle.book.proofs.Steps.{above_is, below_is, joins_dead, plain_step, reply_running}
use Rattle.book.proofs.book.Book.on_joined.Goals as goal

pub returns-then-worker-workers-clause-step : goal.returns-then-worker-workers-clause-step
returns-then-worker-workers-clause-step g c =
    let m = c.args.self.now in
    let far : nat_lt c.args.worker (length m.alive) ≡ false = above_is c.args.worker (length m.alive) (subst (λ (x : Machine). length x.alive ≤ c.args.worker) c.self.view_is (search rules)) in
    plain_step g.J.Origin.work g.J.Origin.honest m m m (λ heard. on_event heard m (JoinedBy c.args.worker)) Stale (Ok Stale) (rw far refl) refl refl (reply_running m.ending Stale c.requires.running)

pub returns-then-not-may_join-clause-step : goal.returns-then-not-may_join-clause-step
returns-then-not-may_join-clause-step g c =
    let m = c.args.self.now in
    let near : nat_lt c.args.worker (length m.alive) ≡ true = below_is c.args.worker (length m.alive) (subst (λ (x : Machine). c.args.worker < length x.alive) c.self.view_is (search rules)) in
    let never : may_join m c.args.worker ≡ false = subst (λ (x : Machine). may_join x c.args.worker ≡ false) c.self.view_is (search rules) in
    plain_step g.J.Origin.work g.J.Origin.honest m m m (λ heard. on_event heard m (JoinedBy c.args.worker)) Stale (Ok Stale) (rw (near, never) refl) refl refl (reply_running m.ending Stale c.requires.running)

pub invariant_of-self : goal.invariant_of-self
invariant_of-self g c =
    let i = c.self.inside in
    let run = subst (λ (m : Machine). is_running m.ending ≡ true) (sym c.self.view_is) c.requires.running in
    let s = (runs g.J.Origin.work g.J.Origin.honest i.control i.job_data c.self.invariant.held run).2.sound in
    let wl : c.args.worker < length i.control.out = rw s.width (search rules) in
    let may : may_join i.control c.args.worker ≡ true = search rules in
    rw c.let_wait.ensures (book_waits g.J.Origin.work g.J.Origin.honest i.job.now i.control i.ids.items i.job_data c.args.worker wl (dead_none i.control c.args.worker s wl (joins_dead i.control c.args.worker may)) c.self.invariant)

pub returns-clause-step : goal.returns-clause-step
returns-clause-step g c =
    let m = c.args.self.now in
    let near : nat_lt c.args.worker (length m.alive) ≡ true = below_is c.args.worker (length m.alive) (subst (λ (x : Machine). c.args.worker < length x.alive) c.self.view_is (search rules)) in
    let may : may_join m c.args.worker ≡ true = subst (λ (x : Machine). may_join x c.args.worker ≡ true) c.self.view_is (search rules) in
    let after = c.let_wait.ensures ∙ ap (λ x. waits x c.args.worker) c.self.view_is in
    plain_step g.J.Origin.work g.J.Origin.honest m c.let_wait.new.self (waits m c.args.worker) (λ heard. on_event heard m (JoinedBy c.args.worker)) Taken (Ok Taken) (rw (near, may) refl) (sym after) (ap (λ (x : Machine). x.superstep) after) (rw after (reply_running m.ending Taken c.requires.running))
