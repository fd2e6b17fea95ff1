use Rattle.std.proofs.Common.{◌≡◌, ◌<◌, ◌≤◌, length, subst, rules, refl, ◌∙◌, ap, true, false}
use Rattle.std.specs.Prelude.{Ok, nat_lt}
use Rattle.control.specs.declared.answer.Answer.TheVariants.{Stale}
use Rattle.control.specs.Machine.{Machine, charged}
use Rattle.control.specs.Events.{Heard, on_event}
use Rattle.control.specs.Events.Stamp.{DoneBy}
use Rattle.control.specs.Stamps.{done_out}
use Rattle.book.proofs.Keeps.{keeps_same}
use Rattle.book.proofs.Kept
use Rattle.book.proofs.Steps.{above_is, below_is, charged_on_event, on_event_steady, plain_step, reply_running}
use Rattle.book.proofs.book.Book.on_done.Goals as goal

pub returns-then-worker-workers : goal.returns-then-worker-workers
returns-then-worker-workers g c =
    let m = c.args.self.now in
    let far : nat_lt c.args.worker (length m.alive) ≡ false = above_is c.args.worker (length m.alive) (subst (λ (x : Machine). length x.alive ≤ c.args.worker) c.self.view_is (search rules)) in
    let next = λ (heard : Heard). on_event heard m (DoneBy c.args.worker (done_out c.args.done) c.args.done.units) in
    on_event_steady g.J.Origin.work g.J.Origin.honest next m m (g.K.Keep.honest c.args.keep.now) (g.K.Keep.saved c.args.keep.now) (g.K.Keep.may_load c.args.keep.now) (g.K.Keep.faults c.args.keep.now) (Ok Stale)
    (plain_step g.J.Origin.work g.J.Origin.honest m m m next Stale (Ok Stale) (rw far refl) refl refl (reply_running m.ending Stale c.requires.running)) (record { saved = refl; missed = refl; restarts = refl }) c.requires.keep

pub count_done-requires-clause-keep : goal.count_done-requires-clause-keep
count_done-requires-clause-keep g c _ _ =
    let same : c.charge.new.self ≡ charged c.args.self.now c.args.worker c.units.result = c.charge.ensures ∙ ap (λ x. charged x c.args.worker c.units.result) c.self.view_is in
    keeps_same g.J.Origin.work g.J.Origin.honest (g.K.Keep.honest c.args.keep.now) (g.K.Keep.saved c.args.keep.now) (g.K.Keep.may_load c.args.keep.now) c.args.self.now c.charge.new.self (ap (λ (x : Machine). x.saved) same) c.requires.keep

pub invariant_of-self : goal.invariant_of-self
invariant_of-self g c =
    let i = c.self.inside in
    rw c.charge.ensures (Kept.book_rest g.J.Origin.work g.J.Origin.honest i.job.now i.control i.ids.items i.job_data i.control.waiting i.control.age _ i.control.missed i.control.restarts c.self.invariant)

pub returns : goal.returns
returns g c =
    let m = c.args.self.now in
    let near : nat_lt c.args.worker (length m.alive) ≡ true = below_is c.args.worker (length m.alive) (subst (λ (x : Machine). c.args.worker < length x.alive) c.self.view_is (search rules)) in
    charged_on_event g.J.Origin.work g.J.Origin.honest m c.charge.new.self _ c.args.worker c.args.done.units (done_out c.args.done) _ _ _ _ _ _ _ _ c.count_done.result near (c.charge.ensures ∙ ap (λ n. charged c.self.inside.control c.args.worker n) c.units.ensures ∙ ap (λ x. charged x c.args.worker c.args.done.units) c.self.view_is) c.count_done.ensures
