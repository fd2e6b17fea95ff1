use Rattle.std.proofs.Common.{◌∙◌}
use Rattle.std.proofs.lemmas.List.{length-set}
use Rattle.book.specs.Saving.{IsKeptStep}
use Rattle.rollback.specs.inside.Simulating.{sim_of}
use Rattle.rollback.proofs.Simulated
use Rattle.rollback.proofs.simulation.run.Goals as goal

pub loop-i-preserved : goal.loop-i-preserved
loop-i-preserved g c =
    let l = c.loop-i in
    let s = sim_of c.args.book.now c.args.held.now in
    record {
      same = length-set l.answers l.i c.step_of.result ∙ l.invariant.same;
      ran = Simulated.ran_more (IsKeptStep g.K.Keep.honest g.K.Keep.saved g.K.Keep.may_load g.K.Keep.faults g.J.Origin.work g.J.Origin.honest) g.J.Origin.work g.J.Origin.honest c.args.steps.now l.answers s c.args.keep.now (sim_of l.book l.held) l.keep (sim_of c.step_of.new.book c.step_of.new.held) c.step_of.new.keep l.i _ c.step_of.result c.loop-i-test.true l.invariant.same l.invariant.ran c.step_of.ensures.step c.step_of.ensures.kept;
      runner = c.step_of.ensures.runner;
      keep = c.step_of.ensures.keep;
    }
