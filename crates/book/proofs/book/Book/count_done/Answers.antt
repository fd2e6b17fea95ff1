use Rattle.std.proofs.Common.{◌≡◌, ◌<◌, length, sym, subst, ◌∙◌, ap, true, false}
use Rattle.std.specs.Prelude.{Ok}
use Rattle.control.specs.declared.control.Out.{Out}
use Rattle.control.specs.declared.answer.Answer.TheVariants.{Stale, Taken}
use Rattle.control.specs.Machine.{Machine, all_set, counts, finished, freed, is_running}
use Rattle.control.specs.Events.{Heard, done_step, stale_done}
use Rattle.control.specs.Stamps.{done_out}
use Rattle.book.proofs.Keeps.{keeps_same}
use Rattle.book.proofs.Kept
use Rattle.control.proofs.Sound.{stale_is, taken_is}
use Rattle.book.proofs.Steps.{counted_on_event, on_event_steady, plain, plain_step, reply_running}
use Rattle.book.proofs.Taking.{book_stale, stale_leaves}
use Rattle.book.proofs.book.Book.count_done.Goals as goal

pub bring_back-requires : goal.bring_back-requires
bring_back-requires g c =
    let i = c.self.inside in
    let near = subst (λ (m : Machine). c.args.worker < length m.alive) (sym c.self.view_is) c.requires.worker in
    Kept.takes g.J.Origin.work g.J.Origin.honest i.control i.job_data c.args.worker c.args.done c.self.invariant.held (subst (λ (m : Machine). is_running m.ending ≡ true) (sym c.self.view_is) c.requires.running) near
    (subst (λ o. counts i.control c.args.worker o ≡ true) c.out_of-task.ensures (sym c.counts.ensures ∙ c.if-not-counts.false))

pub finish-requires : goal.finish-requires
finish-requires g c =
    let i = c.self.inside in
    let near = subst (λ (m : Machine). c.args.worker < length m.alive) (sym c.self.view_is) c.requires.worker in
    rw c.free.ensures (Kept.counted_open g.J.Origin.work g.J.Origin.honest i.control i.job_data c.args.worker c.out_of-task.result c.self.invariant.held (subst (λ (m : Machine). is_running m.ending ≡ true) (sym c.self.view_is) c.requires.running) near (sym c.counts.ensures ∙ c.if-not-counts.false))

pub invariant_of-self : goal.invariant_of-self
invariant_of-self g c =
    let i = c.self.inside in
    let s = Kept.running_sound g.J.Origin.work g.J.Origin.honest i.control i.job_data c.self.invariant.held (subst (λ (m : Machine). is_running m.ending ≡ true) (sym c.self.view_is) c.requires.running) in
    let wl : c.args.worker < length i.control.out = rw s.width (subst (λ (m : Machine). c.args.worker < length m.alive) (sym c.self.view_is) c.requires.worker) in
    rw c.leave_out.ensures (book_stale g.J.Origin.work g.J.Origin.honest i.job.now i.control i.ids.items i.job_data c.args.worker c.out_of-task.result s wl (sym c.counts.ensures ∙ c.if-not-counts.true) c.self.invariant)

pub returns-then-not-counts : goal.returns-then-not-counts
returns-then-not-counts g c =
    let m = c.args.self.now in
    let o = done_out c.args.done in
    let next = λ (heard : Heard). done_step heard m c.args.worker o in
    let no' : counts m c.args.worker o ≡ false = subst (λ (t : Out). counts m c.args.worker t ≡ false) c.out_of-task.ensures (subst (λ (x : Machine). counts x c.args.worker c.out_of-task.result ≡ false) c.self.view_is (sym c.counts.ensures ∙ c.if-not-counts.true)) in
    let is = c.leave_out.ensures ∙ ap (λ (t : Out). stale_done c.self.inside.control c.args.worker t) c.out_of-task.ensures ∙ ap (λ (x : Machine). stale_done x c.args.worker o) c.self.view_is in
    let left = stale_leaves m c.args.worker o in
    on_event_steady g.J.Origin.work g.J.Origin.honest next m c.leave_out.new.self (g.K.Keep.honest c.args.keep.now) (g.K.Keep.saved c.args.keep.now) (g.K.Keep.may_load c.args.keep.now) (g.K.Keep.faults c.args.keep.now) (Ok Stale)
    (plain_step g.J.Origin.work g.J.Origin.honest m c.leave_out.new.self (stale_done m c.args.worker o) next Stale (Ok Stale) (stale_is plain m c.args.worker o no') (sym is)
    (ap (λ (x : Machine). x.superstep) is ∙ left.same.superstep) (rw (is, left.ending) (reply_running m.ending Stale c.requires.running)))
    (record { saved = ap (λ (x : Machine). x.saved) is ∙ left.same.saved; missed = ap (λ (x : Machine). x.missed) is ∙ left.same.missed; restarts = ap (λ (x : Machine). x.restarts) is ∙ left.same.restarts }) c.requires.keep

pub returns-else-finish : goal.returns-else-finish
returns-else-finish g c =
    let m = c.args.self.now in
    let o = done_out c.args.done in
    let next = λ (heard : Heard). done_step heard m c.args.worker o in
    let yes' : counts m c.args.worker o ≡ true = subst (λ (t : Out). counts m c.args.worker t ≡ true) c.out_of-task.ensures (subst (λ (x : Machine). counts x c.args.worker c.out_of-task.result ≡ true) c.self.view_is (sym c.counts.ensures ∙ c.if-not-counts.false)) in
    let is = c.finish.ensures.after ∙ ap (λ (x : Machine). finished x c.out_of-task.result.part) (c.free.ensures ∙ ap (λ (x : Machine). freed x c.args.worker) c.self.view_is) ∙ ap (λ (t : Out). finished (freed m c.args.worker) t.part) c.out_of-task.ensures in
    let e = taken_is plain m c.args.worker o yes' (subst (λ (x : Machine). all_set x.done ≡ false) is (sym c.finish.ensures.all ∙ c.if-finish.false)) in
    on_event_steady g.J.Origin.work g.J.Origin.honest next m c.finish.new.self (g.K.Keep.honest c.args.keep.now) (g.K.Keep.saved c.args.keep.now) (g.K.Keep.may_load c.args.keep.now) (g.K.Keep.faults c.args.keep.now) (Ok Taken)
    (plain_step g.J.Origin.work g.J.Origin.honest m c.finish.new.self (finished (freed m c.args.worker) o.part) next Taken (Ok Taken) e (sym is) (ap (λ (x : Machine). x.superstep) is) (rw is (reply_running m.ending Taken c.requires.running)))
    (record { saved = ap (λ (x : Machine). x.saved) is; missed = ap (λ (x : Machine). x.missed) is; restarts = ap (λ (x : Machine). x.restarts) is }) c.requires.keep

pub returns-then-finish : goal.returns-then-finish
returns-then-finish g c =
    let m = c.args.self.now in
    let o = done_out c.args.done in
    let yes' : counts m c.args.worker o ≡ true = subst (λ (t : Out). counts m c.args.worker t ≡ true) c.out_of-task.ensures (subst (λ (x : Machine). counts x c.args.worker c.out_of-task.result ≡ true) c.self.view_is (sym c.counts.ensures ∙ c.if-not-counts.false)) in
    let is = c.finish.ensures.after ∙ ap (λ (x : Machine). finished x c.out_of-task.result.part) (c.free.ensures ∙ ap (λ (x : Machine). freed x c.args.worker) c.self.view_is) ∙ ap (λ (t : Out). finished (freed m c.args.worker) t.part) c.out_of-task.ensures in
    counted_on_event g.J.Origin.work g.J.Origin.honest m c.finish.new.self _ c.args.worker o _ _ _ _ _ _ _ _ c.close.result yes' is (sym c.finish.ensures.all ∙ c.if-finish.true) c.close.ensures

pub invariant_of-self-then-finish : goal.invariant_of-self-then-finish
invariant_of-self-then-finish g c =
    let i = c.self.inside in
    let near = subst (λ (m : Machine). c.args.worker < length m.alive) (sym c.self.view_is) c.requires.worker in
    rw (c.finish.ensures.after, c.free.ensures) (rw c.out_of-task.ensures (Kept.book_taken_in g.J.Origin.work g.J.Origin.honest i.job.now i.control i.ids.items i.job_data _ c.args.worker (done_out c.args.done) near (subst (λ (m : Machine). is_running m.ending ≡ true) (sym c.self.view_is) c.requires.running)
    (subst (λ o. counts i.control c.args.worker o ≡ true) c.out_of-task.ensures (sym c.counts.ensures ∙ c.if-not-counts.false)) c.bring_back.ensures c.self.invariant))

pub invariant_of-self-else-finish : goal.invariant_of-self-else-finish
invariant_of-self-else-finish g c =
    let i = c.self.inside in
    let near = subst (λ (m : Machine). c.args.worker < length m.alive) (sym c.self.view_is) c.requires.worker in
    rw (c.finish.ensures.after, c.free.ensures) (rw c.out_of-task.ensures (Kept.book_taken_in g.J.Origin.work g.J.Origin.honest i.job.now i.control i.ids.items i.job_data _ c.args.worker (done_out c.args.done) near (subst (λ (m : Machine). is_running m.ending ≡ true) (sym c.self.view_is) c.requires.running)
    (subst (λ o. counts i.control c.args.worker o ≡ true) c.out_of-task.ensures (sym c.counts.ensures ∙ c.if-not-counts.false)) c.bring_back.ensures c.self.invariant))

pub close-requires : goal.close-requires
close-requires g c =
    let m = c.args.self.now in
    let free = c.free.ensures ∙ ap (λ (x : Machine). freed x c.args.worker) c.self.view_is in
    let is : c.finish.new.self ≡ finished (freed m c.args.worker) c.out_of-task.result.part =
    c.finish.ensures.after ∙ ap (λ (x : Machine). finished x c.out_of-task.result.part) free in
    let running = subst (λ (x : Machine). is_running x.ending ≡ true) (sym is) c.requires.running in
    let keeps = keeps_same g.J.Origin.work g.J.Origin.honest (g.K.Keep.honest c.args.keep.now) (g.K.Keep.saved c.args.keep.now) (g.K.Keep.may_load c.args.keep.now)
    m c.finish.new.self (ap (λ (x : Machine). x.saved) is) c.requires.keep in
    (c.type_bounds.sync-R, (running, (sym c.finish.ensures.all ∙ c.if-finish.true, keeps)))
