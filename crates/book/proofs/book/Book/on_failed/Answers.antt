use Rattle.std.proofs.Common.{◌≡◌, ◌<◌, ◌≤◌, length, sym, subst, rules, refl, ◌∙◌, ap, true, false}
use Rattle.std.specs.Prelude.{Ok, Err, nat_lt}
use Rattle.job_state.specs.declared.fault.JobFault.TheVariants.{OutOfMemory}
use Rattle.control.specs.declared.answer.Answer.TheVariants.{Ended, Stale}
use Rattle.control.specs.Machine.{Machine, ended_by, is_busy}
use Rattle.control.specs.Events.{on_event}
use Rattle.control.specs.Events.Stamp.{FailedBy}
use Rattle.book.proofs.Kept.{book_ended}
use Rattle.book.proofs.Steps.{above_is, below_is, plain_step, reply_running}
use Rattle.book.proofs.book.Book.on_failed.Goals as goal

pub returns-then-worker-workers-clause-step : goal.returns-then-worker-workers-clause-step
returns-then-worker-workers-clause-step g c =
    let m = c.args.self.now in
    let far : nat_lt c.args.worker (length m.alive) ≡ false = above_is c.args.worker (length m.alive) (subst (λ (x : Machine). length x.alive ≤ c.args.worker) c.self.view_is (search rules)) in
    plain_step g.J.Origin.work g.J.Origin.honest m m m (λ heard. on_event heard m (FailedBy c.args.worker c.args.place)) Stale (Ok Stale) (rw far refl) refl refl (reply_running m.ending Stale c.requires.running)

pub returns-then-not-is_busy-clause-step : goal.returns-then-not-is_busy-clause-step
returns-then-not-is_busy-clause-step g c =
    let m = c.args.self.now in
    let near : nat_lt c.args.worker (length m.alive) ≡ true = below_is c.args.worker (length m.alive) (subst (λ (x : Machine). c.args.worker < length x.alive) c.self.view_is (search rules)) in
    let idle : is_busy m.alive m.out c.args.worker ≡ false = subst (λ (x : Machine). is_busy x.alive x.out c.args.worker ≡ false) c.self.view_is (search rules) in
    plain_step g.J.Origin.work g.J.Origin.honest m m m (λ heard. on_event heard m (FailedBy c.args.worker c.args.place)) Stale (Ok Stale) (rw (near, idle) refl) refl refl (reply_running m.ending Stale c.requires.running)

pub invariant_of-self : goal.invariant_of-self
invariant_of-self g c =
    let i = c.self.inside in
    rw c.fail.ensures (book_ended g.J.Origin.work g.J.Origin.honest i.job.now i.control i.ids.items i.job_data _ (OutOfMemory c.args.place) refl c.self.invariant)

pub returns-clause-step : goal.returns-clause-step
returns-clause-step g c =
    let m = c.args.self.now in
    let near : nat_lt c.args.worker (length m.alive) ≡ true = below_is c.args.worker (length m.alive) (subst (λ (x : Machine). c.args.worker < length x.alive) c.self.view_is (search rules)) in
    let busy : is_busy m.alive m.out c.args.worker ≡ true = subst (λ (x : Machine). is_busy x.alive x.out c.args.worker ≡ true) c.self.view_is (search rules) in
    let after = c.fail.ensures ∙ ap (λ x. ended_by (OutOfMemory c.args.place) x) c.self.view_is in
    plain_step g.J.Origin.work g.J.Origin.honest m c.fail.new.self (ended_by (OutOfMemory c.args.place) m) (λ heard. on_event heard m (FailedBy c.args.worker c.args.place)) Ended (Err (OutOfMemory c.args.place)) (rw (near, busy) refl) (sym after) (ap (λ (x : Machine). x.superstep) after) (rw after refl)
