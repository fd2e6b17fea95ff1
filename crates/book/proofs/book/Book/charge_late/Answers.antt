use Rattle.std.proofs.Common.{◌≡◌, ◌<◌, ◌≤◌, length, subst, rules, refl, ◌∙◌, ap, true, false}
use Rattle.std.specs.Prelude.{nat_lt}
use Rattle.control.specs.Machine.{Machine, charged, has_answer}
use Rattle.book.proofs.Kept
use Rattle.book.proofs.Steps.{above_is, below_is}
use Rattle.book.proofs.book.Book.charge_late.Goals as goal

pub returns-then-not-has_answer-clause-machine : goal.returns-then-not-has_answer-clause-machine
returns-then-not-has_answer-clause-machine g c = λ task.
    let no' : has_answer c.args.self.now.ending ≡ false = subst (λ (x : Machine). has_answer x.ending ≡ false) c.self.view_is (search rules) in
    rw no' refl

pub returns-then-worker-workers-clause-machine : goal.returns-then-worker-workers-clause-machine
returns-then-worker-workers-clause-machine g c = λ task.
    let m = c.args.self.now in
    let yes' : has_answer m.ending ≡ true = subst (λ (x : Machine). has_answer x.ending ≡ true) c.self.view_is (search rules) in
    let far : nat_lt c.args.worker (length m.alive) ≡ false = above_is c.args.worker (length m.alive) (subst (λ (x : Machine). length x.alive ≤ c.args.worker) c.self.view_is (search rules)) in
    rw (yes', far) refl

pub invariant_of-self : goal.invariant_of-self
invariant_of-self g c =
    let i = c.self.inside in
    rw c.charge.ensures (Kept.book_rest g.J.Origin.work g.J.Origin.honest i.job.now i.control i.ids.items i.job_data i.control.waiting i.control.age _ i.control.missed i.control.restarts c.self.invariant)

pub returns-clause-machine : goal.returns-clause-machine
returns-clause-machine g c = λ task.
    let m = c.args.self.now in
    let yes' : has_answer m.ending ≡ true = subst (λ (x : Machine). has_answer x.ending ≡ true) c.self.view_is (search rules) in
    let near : nat_lt c.args.worker (length m.alive) ≡ true = below_is c.args.worker (length m.alive) (subst (λ (x : Machine). c.args.worker < length x.alive) c.self.view_is (search rules)) in
    rw (yes', near) (c.charge.ensures ∙ ap (λ (x : Machine). charged x c.args.worker c.args.units) c.self.view_is)
