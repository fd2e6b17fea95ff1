use Rattle.std.proofs.Common.{ap, false, true}
use Rattle.control.specs.declared.control.Out.{Out}
use Rattle.control.specs.Events.Stamp.{DoneBy, FailedBy}
use Rattle.control.proofs.Stamps.{done_same}
use Rattle.rollback.proofs.simulation.done_by.Goals as goal

pub returns-in-Ok-clause-told : goal.returns-in-Ok-clause-told
returns-in-Ok-clause-told g c =
    let done = c.in-Ok.done in
    let e = c.in-Ok.ensures in
    (true, done.units, ap (λ (o : Out). DoneBy c.args.worker o done.units) (done_same done c.args.task e.epoch e.superstep e.part), λ ran sure. e.units sure)

pub returns-in-Err-clause-told : goal.returns-in-Err-clause-told
returns-in-Err-clause-told g c =
    (false, 0, ap (λ p. FailedBy c.args.worker p) c.in-Err.ensures.lost, λ ran sure. absurd (cc))
