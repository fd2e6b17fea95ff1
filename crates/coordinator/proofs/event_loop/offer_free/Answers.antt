use Rattle.hub_ends.specs.Hub.{handed, received}
use Rattle.coordinator.proofs.Moving.{steps_none}
use Rattle.coordinator.proofs.event_loop.offer_free.Goals as goal

pub returns-in-Nobody-clause-steps : goal.returns-in-Nobody-clause-steps
returns-in-Nobody-clause-steps g c =
    let s = c.args.ends.now in
    steps_none g.J.Origin.work g.J.Origin.honest c.args.book.now (received s) (handed s)
