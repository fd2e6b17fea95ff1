use Rattle.superstep.specs.Tasks.{trusts}
use Rattle.rollback.proofs.Simulated
use Rattle.rollback.proofs.simulation.simulate.Goals as goal

pub returns-clause-simulated : goal.returns-clause-simulated
returns-clause-simulated g c = Simulated.simulated_of g.K.Keep.honest g.K.Keep.saved g.K.Keep.may_load g.K.Keep.faults c.args.job.now (trusts (g.K.Keep.honest c.args.keep.now)) c.args.steps.now c.args.keep.now c.simulate_as.new.keep c.simulate_as.result c.simulate_as.ensures.kept

pub returns-clause-calm : goal.returns-clause-calm
returns-clause-calm g c = λ one never. Simulated.calm_over g.K.Keep.honest g.K.Keep.saved g.K.Keep.may_load g.K.Keep.faults c.args.job.now (trusts (g.K.Keep.honest c.args.keep.now)) c.args.steps.now c.args.keep.now c.simulate_as.new.keep c.simulate_as.result one never c.simulate_as.ensures.kept
