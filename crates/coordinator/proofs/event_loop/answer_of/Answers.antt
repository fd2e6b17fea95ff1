use Rattle.std.proofs.Common.{sym, ◌∙◌}
use Rattle.coordinator.proofs.Ending.{answer_fault}
use Rattle.coordinator.proofs.event_loop.answer_of.Goals as goal

pub returns-in-Fault : goal.returns-in-Fault
returns-in-Fault g c = answer_fault g.J.Origin.work g.J.Origin.honest c.args.book c.in-Fault.fault (sym c.in-Fault.is ∙ c.status-status.ensures.end)
