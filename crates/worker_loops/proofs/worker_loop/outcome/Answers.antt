use Rattle.worker_loops.proofs.Returning.{return_done}
use Rattle.worker_loops.proofs.worker_loop.outcome.Goals as goal

pub returns-in-Ok-clause-returns : goal.returns-in-Ok-clause-returns
returns-in-Ok-clause-returns g c =
    let e = c.in-Ok.ensures in
    return_done g.J.Origin.work g.J.Origin.honest c.args.worker c.args.task c.in-Ok.done e.epoch e.superstep e.part e.units
