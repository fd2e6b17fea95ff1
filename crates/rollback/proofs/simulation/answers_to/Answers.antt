use Rattle.std.proofs.Common.{◌≡◌, replicate, sym, subst, rules, ◌∙◌, ap, None}
use Rattle.superstep.specs.Job.{Work}
use Rattle.book.specs.Saving.{IsKeptStep}
use Rattle.rollback.specs.Simulation.{RanOver, Sim}
use Rattle.rollback.specs.inside.Simulating.{sim_of, stamps, with_none_held}
use Rattle.rollback.proofs.Simulated
use Rattle.rollback.proofs.simulation.answers_to.Goals as goal

pub returns-clause-answered : goal.returns-clause-answered
returns-clause-answered g c =
    let j = g.J.Origin.work in
    let h = g.J.Origin.honest in
    let held = c.deref_mut.result.now in
    let own : sim_of c.args.book.now held ≡ with_none_held j.settings.workers c.args.book.now =
    Simulated.held_none c.args.book.now (stamps held) j.settings.workers (search rules ∙ ap (λ (w : Work). replicate w.settings.workers None) (sym c.requires.runner.job)) in
    record {
      held = stamps c.run.new.held;
      ran = rw (Simulated.overwritten c.in_ok-answers.answers.len c.run.new.answers c.in_ok-answers.answers.items (c.run.auto.answers ∙ c.deref_mut-2.ensures.len))
          (subst (λ (s : Sim). RanOver (IsKeptStep g.K.Keep.honest g.K.Keep.saved g.K.Keep.may_load g.K.Keep.faults g.J.Origin.work g.J.Origin.honest) j h c.args.steps.now s c.args.keep.now c.run.new.answers (sim_of c.run.new.book c.run.new.held) c.run.new.keep) own c.run.ensures.ran);
    }
