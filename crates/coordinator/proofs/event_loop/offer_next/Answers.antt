use Rattle.std.proofs.Common.{arith, refl}
use Rattle.hub_ends.specs.Hub.{handed, received}
use Rattle.hub_ends.proofs.Handed.{on_ok}
use Rattle.hub_ends.proofs.Handing.{handed_len}
use Rattle.coordinator.proofs.Moving.{steps_hand, steps_same}
use Rattle.coordinator.proofs.event_loop.offer_next.Goals as goal

pub returns-in-Some-clause-steps : goal.returns-in-Some-clause-steps
returns-in-Some-clause-steps g c =
    let s = c.args.ends.now in
    let t = c.in-Some.ensures.some in
    on_ok _ _ c.offer.result c.offer.ensures.handed
    (λ e. steps_hand g.J.Origin.work g.J.Origin.honest c.args.book.now c.next_task.new.self (received s) (received c.offer.new.self) (handed s) (handed c.offer.new.self) c.args.worker c.in-Some.task
    (omega (arith, c.requires, handed_len s)) t.0 t.2 t.1 c.offer.ensures.received e)

pub returns-in-None-clause-steps : goal.returns-in-None-clause-steps
returns-in-None-clause-steps g c =
    let s = c.args.ends.now in
    steps_same g.J.Origin.work g.J.Origin.honest c.args.book.now c.next_task.new.self (received s) (handed s) (c.in-None.ensures.none refl).0
