use Rattle.std.proofs.Common.{sym, ◌∙◌}
use Rattle.rollback.proofs.Simulated
use Rattle.rollback.proofs.simulation.outcome_of.Goals as goal

pub returns-in-Running : goal.returns-in-Running
returns-in-Running g c = Simulated.outcome_open g.J.Origin.work g.J.Origin.honest c.args.book c.status-status.result.superstep (sym c.in-Running.is ∙ c.status-status.ensures.end) c.status-status.ensures.superstep

pub returns-in-Fault : goal.returns-in-Fault
returns-in-Fault g c = Simulated.outcome_fault g.J.Origin.work g.J.Origin.honest c.args.book c.in-Fault.fault (sym c.in-Fault.is ∙ c.status-status.ensures.end)
