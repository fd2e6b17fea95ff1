use Rattle.std.proofs.lemmas.Result.{err_from_is_err_and}
use Rattle.std.proofs.Common.{◌≡◌, refl, sym, ◌∙◌, ap, replicate, None, Err}
use Rattle.superstep.specs.Job.{Work}
use Rattle.control.specs.Machine.{opened}
use Rattle.rollback.specs.inside.Simulating.{with_none_held}
use Rattle.rollback.proofs.Simulated
use Rattle.rollback.proofs.simulation.simulate_by.Goals as goal

pub returns-clause-kept : goal.returns-clause-kept
returns-clause-kept g c =
    let j = g.J.Origin.work in
    let o = c.in_ok-book.ensures.opened in
    let told = c.in-Ok.ensures.answered in
    let same : c.in_ok-book.book ≡ opened j.settings o.0 = o.2 ∙ ap (λ (w : Work). opened w.settings o.0) (sym c.requires.runner.job) in
    Simulated.run_over g.K.Keep.honest g.K.Keep.saved g.K.Keep.may_load g.K.Keep.faults g.J.Origin.work g.J.Origin.honest c.args.steps.now o.0 (with_none_held j.settings.workers c.in_ok-book.book) c.args.keep.now c.in-Ok.answers.items (record { machine = c.answers_to.new.book; held = told.held }) c.answers_to.new.keep _ o.1
    (Simulated.opened_is j c.in_ok-book.book (replicate j.settings.workers None) o.0 same refl) told.ran c.answers_to.ensures.keep (refl, c.in_ok-outcome.ensures)

pub returns-in_err-outcome-clause-kept : goal.returns-in_err-outcome-clause-kept
returns-in_err-outcome-clause-kept g c =
    let j = g.J.Origin.work in
    let o = c.in_ok-book.ensures.opened in
    let told = c.in-Ok.ensures.answered in
    let same : c.in_ok-book.book ≡ opened j.settings o.0 = o.2 ∙ ap (λ (w : Work). opened w.settings o.0) (sym c.requires.runner.job) in
    let fault = err_from_is_err_and c.from_residual-in_err-outcome.result c.from_residual-in_err-outcome.ensures.1 in
    let fault_is : c.from_residual-in_err-outcome.result ≡ Err c.in_err-outcome.field-0.0 = fault.1 ∙ ap Err fault.2 in
    rw fault_is (Simulated.run_over g.K.Keep.honest g.K.Keep.saved g.K.Keep.may_load g.K.Keep.faults g.J.Origin.work g.J.Origin.honest c.args.steps.now o.0 (with_none_held j.settings.workers c.in_ok-book.book) c.args.keep.now c.in-Ok.answers.items (record { machine = c.answers_to.new.book; held = told.held }) c.answers_to.new.keep (Err c.in_err-outcome.field-0.0) o.1
    (Simulated.opened_is j c.in_ok-book.book (replicate j.settings.workers None) o.0 same refl) told.ran c.answers_to.ensures.keep c.in_err-outcome.ensures)
