use Rattle.std.proofs.Common.{◌≡◌, refl, sym, subst, rules, ◌∙◌, ap, Some}
use Rattle.control.specs.Machine.{Machine, hand, handed}
use Rattle.book.proofs.Kept.{book_handed_in, has_home, home_epoch, home_superstep}
use Rattle.book.proofs.book.Book.next_task.Goals as goal

pub hand_out-task-requires-clause-home : goal.hand_out-task-requires-clause-home
hand_out-task-requires-clause-home g c =
    let i = c.self.inside in
    let e : hand i.control c.args.worker ≡ Some c.in_ok-part.part = search rules in
    has_home g.J.Origin.work g.J.Origin.honest i.control i.job_data c.args.worker c.in_ok-part.part c.self.invariant.held e c.in_ok-part.ensures.in_range

pub hand_out-task-requires-clause-later : goal.hand_out-task-requires-clause-later
hand_out-task-requires-clause-later g c =
    let i = c.self.inside in
    let e : hand i.control c.args.worker ≡ Some c.in_ok-part.part = search rules in
    home_epoch g.J.Origin.work g.J.Origin.honest i.control i.job_data c.in_ok-part.part c.epoch-epoch.result c.self.invariant.held
    (has_home g.J.Origin.work g.J.Origin.honest i.control i.job_data c.args.worker c.in_ok-part.part c.self.invariant.held e c.in_ok-part.ensures.in_range) c.epoch-epoch.ensures

pub invariant_of-self : goal.invariant_of-self
invariant_of-self g c =
    let i = c.self.inside in
    let e : hand i.control c.args.worker ≡ Some c.in_ok-part.part = search rules in
    rw c.hand_out.ensures (book_handed_in g.J.Origin.work g.J.Origin.honest i.job.now i.control i.ids.items i.job_data _ c.args.worker c.in_ok-part.part (search rules) c.in_ok-part.ensures.in_range e c.hand_out-task.ensures.after c.self.invariant)

pub returns-clause-some : goal.returns-clause-some
returns-clause-some g c =
    let i = c.self.inside in
    let m = c.args.self.now in
    let task = c.hand_out-task.result in
    let told = c.hand_out-task.ensures in
    let same = home_superstep g.J.Origin.work g.J.Origin.honest i.control i.job_data task.superstep c.self.invariant.held told.superstep ∙ ap (λ (x : Machine). x.superstep) c.self.view_is in
    let epoch : task.epoch ≡ m.epoch = told.epoch ∙ c.epoch-epoch.ensures ∙ ap (λ (x : Machine). x.epoch) c.self.view_is in
    let e : hand m c.args.worker ≡ Some c.in_ok-part.part = subst (λ (x : Machine). hand x c.args.worker ≡ Some c.in_ok-part.part) c.self.view_is (search rules) in (
      e ∙ ap Some (sym told.part),
      c.hand_out.ensures ∙ ap (λ (x : Machine). handed x c.args.worker c.in_ok-part.part) c.self.view_is ∙ ap (λ p. handed m c.args.worker p) (sym told.part),
      rw (epoch, same) refl,
    )
